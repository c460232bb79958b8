use Rattle.std.proofs.Common.{◌<◌, ◌^◌, ◌∙◌, ap, subst, sym}
use Rattle.std.specs.Box.{with_value}
use Rattle.engine_text.specs.declared.container.Life.{Life}
use Rattle.container_table.specs.LifeChanges.{with_launch}
use Rattle.container_table.specs.Logs.{container_in, room_in}
use Rattle.container_table.specs.declared.held.Held.{Held}
use Rattle.container_table.proofs.BoxLemmas.{contents_at, rooms_kept}
use Rattle.container_table.proofs.LifeLemmas.{value_at}
use Rattle.container_table.proofs.boxes.launch.Goals as goal

pub launch-requires : goal.launch-requires
launch-requires c =
    subst (λ (h : Held). h.container.life.starts < 2 ^ 63) (sym (c.deref_mut.ensures.value ∙ ap (λ b. b.value) c.at_mut-held.ensures.value))
    (c.requires.few _ (value_at c.args.boxes.now.list.items c.args.i c.at_mut-held.result.now c.requires.bound))

pub returns-clause-contents : goal.returns-clause-contents
returns-clause-contents c =
    contents_at (with_launch c.args.pid c.args.moment) c.args.boxes.now.list.items c.args.i c.at_mut-held.result.now
    (with_value c.at_mut-held.result.now (record c.deref_mut.result.now { container = record c.deref_mut.result.now.container { life = c.launch.new.life } }))
    (ap (λ (l : Life). record c.deref_mut.result.now.container { life = record l { log = c.deref_mut.result.now.log.records } }) c.launch.ensures
    ∙ ap (λ (h : Held). with_launch c.args.pid c.args.moment (container_in h)) (c.deref_mut.ensures.value ∙ ap (λ b. b.value) c.at_mut-held.ensures.value))

pub returns-clause-rooms : goal.returns-clause-rooms
returns-clause-rooms c =
    rooms_kept c.args.boxes.now.list.items c.args.i c.at_mut-held.result.now
    (with_value c.at_mut-held.result.now (record c.deref_mut.result.now { container = record c.deref_mut.result.now.container { life = c.launch.new.life } }))
    (ap room_in (c.deref_mut.ensures.value ∙ ap (λ b. b.value) c.at_mut-held.ensures.value))
