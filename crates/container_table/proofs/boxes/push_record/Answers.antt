use Rattle.std.proofs.Common.{◌≡◌, ◌-◌, ◌<◌, ◌∙◌, List, [], ◌∷◌, ◌++◌, ap, sym, subst, arith}
use Rattle.std.specs.Prelude.{◌==◌}
use Rattle.std.specs.Box.{with_value}
use Rattle.engine_text.specs.declared.container.Container.{Container}
use Rattle.engine_text.specs.declared.log.LogRecord.{LogRecord}
use Rattle.container_table.specs.Held.{contents}
use Rattle.container_table.specs.Logs.{room_in}
use Rattle.container_table.specs.declared.held.Held.{Held}
use Rattle.container_table.proofs.HeldLemmas.{contents_changed, numbers_alone}
use Rattle.container_table.proofs.BoxLemmas.{rooms_less, room_stands}
use Rattle.container_table.proofs.boxes.push_record.Goals as goal

pub push_reserved-requires : goal.push_reserved-requires
push_reserved-requires c =
    subst (λ (h : Held). 0 < h.log.room) (sym (c.deref_mut.ensures.value ∙ ap (λ b. b.value) c.at_mut-held.ensures.value))
    (room_stands c.args.number c.args.boxes.now.list.items c.args.i c.at_mut-held.result.now c.requires.boxed.order c.requires.place c.requires.room)

pub returns-clause-contents : goal.returns-clause-contents
returns-clause-contents c =
    contents_changed (λ d. d.number == c.args.number) (λ (d : Container). record d { life = record d.life { log = d.life.log ++ c.args.item ∷ [] } }) c.args.boxes.now.list.items c.args.i c.at_mut-held.result.now
    (with_value c.at_mut-held.result.now (record c.deref_mut.result.now { log = c.push_reserved.new.self }))
    (numbers_alone c.args.number (contents c.args.boxes.now.list.items) c.requires.boxed.order) c.requires.place
    (ap (λ (rs : List LogRecord). record c.deref_mut.result.now.container { life = record c.deref_mut.result.now.container.life { log = rs } }) c.push_reserved.ensures.records
    ∙ ap (λ (h : Held). record h.container { life = record h.container.life { log = h.log.records ++ c.args.item ∷ [] } }) (c.deref_mut.ensures.value ∙ ap (λ b. b.value) c.at_mut-held.ensures.value))

pub returns-clause-rooms : goal.returns-clause-rooms
returns-clause-rooms c =
    let before = ap room_in (c.deref_mut.ensures.value ∙ ap (λ b. b.value) c.at_mut-held.ensures.value) in
    let less : c.push_reserved.new.self.room ≡ c.deref_mut.result.now.log.room - 1 = omega (arith, c.push_reserved.ensures.room) in
    rooms_less c.args.number c.args.boxes.now.list.items c.args.i c.at_mut-held.result.now
    (with_value c.at_mut-held.result.now (record c.deref_mut.result.now { log = c.push_reserved.new.self }))
    (numbers_alone c.args.number (contents c.args.boxes.now.list.items) c.requires.boxed.order) c.requires.place
    (less ∙ ap (λ n. n - 1) before)
