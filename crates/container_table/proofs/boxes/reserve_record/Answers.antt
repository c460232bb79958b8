use Rattle.std.proofs.Common.{◌≤◌, ◌∙◌, List, ap, subst, arith}
use Rattle.std.specs.Box.{with_value}
use Rattle.std.proofs.lemmas.Result.{on_ok_weaker, on_err_weaker}
use Rattle.engine_text.specs.declared.log.LogRecord.{LogRecord}
use Rattle.engine_text.specs.Logs.{Written}
use Rattle.container_table.specs.Logs.{container_in, room_in}
use Rattle.container_table.specs.declared.held.Held.{Held}
use Rattle.container_table.proofs.BoxLemmas.{contents_kept, rooms_kept, no_less, room_made}
use Rattle.container_table.proofs.boxes.reserve_record.Goals as goal

pub returns-clause-contents : goal.returns-clause-contents
returns-clause-contents c =
    contents_kept c.args.boxes.now.list.items c.args.i c.at_mut-held.result.now (with_value c.at_mut-held.result.now (record c.deref_mut.result.now { log = c.reserve.new.self }))
    (ap (λ (rs : List LogRecord). record c.deref_mut.result.now.container { life = record c.deref_mut.result.now.container.life { log = rs } }) c.reserve.ensures.records
    ∙ ap container_in (c.deref_mut.ensures.value ∙ ap (λ b. b.value) c.at_mut-held.ensures.value))

pub returns-clause-ok : goal.returns-clause-ok
returns-clause-ok c =
    on_ok_weaker c.reserve.result
    (λ more. room_made c.args.number c.args.boxes.now.list.items c.args.i (with_value c.at_mut-held.result.now (record c.deref_mut.result.now { log = c.reserve.new.self })) _ c.requires.boxed.order c.requires.place
    (returns-clause-contents c) (omega (arith, more))) c.reserve.ensures.ok

pub returns-clause-rooms : goal.returns-clause-rooms
returns-clause-rooms c =
    no_less c.args.boxes.now.list.items c.args.i c.at_mut-held.result.now (with_value c.at_mut-held.result.now (record c.deref_mut.result.now { log = c.reserve.new.self }))
    (subst (λ (h : Held). h.log.room ≤ c.reserve.new.self.room) (c.deref_mut.ensures.value ∙ ap (λ b. b.value) c.at_mut-held.ensures.value) c.reserve.ensures.room)

pub returns-clause-err : goal.returns-clause-err
returns-clause-err c =
    on_err_weaker c.reserve.result
    (λ same. rooms_kept c.args.boxes.now.list.items c.args.i c.at_mut-held.result.now (with_value c.at_mut-held.result.now (record c.deref_mut.result.now { log = c.reserve.new.self }))
    (ap (λ (l : Written). l.room) same ∙ ap room_in (c.deref_mut.ensures.value ∙ ap (λ b. b.value) c.at_mut-held.ensures.value))) c.reserve.ensures.err
