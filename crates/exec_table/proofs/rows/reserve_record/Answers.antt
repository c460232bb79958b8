use Rattle.std.proofs.Common.{◌≤◌, arith, List, sym, ap, subst, ◌∙◌}
use Rattle.std.proofs.lemmas.Result.{on_err_weaker}
use Rattle.engine_text.specs.Logs.{Written}
use Rattle.engine_text.specs.declared.log.LogRecord.{LogRecord}
use Rattle.exec_table.specs.Execs.{is_output_numbered}
use Rattle.exec_table.specs.ExecsInside.{output_in, room_in}
use Rattle.exec_table.specs.declared.row.Row.{Row}
use Rattle.exec_table.proofs.OrderLemmas.{sorted_same}
use Rattle.exec_table.proofs.RowLemmas.{no_place, made_at, no_less, no_less_itself, on_ok, set_same}
use Rattle.exec_table.proofs.rows.reserve_record.Goals as goal

pub returns-in_default-clause-room : goal.returns-in_default-clause-room
returns-in_default-clause-room c = no_place (is_output_numbered c.args.number) output_in room_in c.args.rows.now.items (sym c.place_of.ensures ∙ c.in_default.is)

pub returns-in_default-clause-rooms : goal.returns-in_default-clause-rooms
returns-in_default-clause-rooms c = no_less_itself _

pub returns-clause-rooms : goal.returns-clause-rooms
returns-clause-rooms c = no_less c.args.rows.now.items c.in-Some.i c.at_mut-row.result.now _
    (subst (λ (r : Row). room_in r ≤ c.reserve.new.self.room) c.at_mut-row.ensures.value c.reserve.ensures.room)

pub returns-clause-err : goal.returns-clause-err
returns-clause-err c = on_err_weaker c.reserve.result
    (λ same. set_same room_in c.at_mut-row.result.now (record c.at_mut-row.result.now { log = c.reserve.new.self }) c.args.rows.now.items c.in-Some.i (ap (λ (l : Written). l.room) same ∙ ap (λ (r : Row). room_in r) c.at_mut-row.ensures.value))
    c.reserve.ensures.err

pub returns-clause-outputs : goal.returns-clause-outputs
returns-clause-outputs c = set_same output_in c.at_mut-row.result.now _ c.args.rows.now.items c.in-Some.i
    (ap (λ (l : List LogRecord). record (output_in c.at_mut-row.result.now) { log = l }) c.reserve.ensures.records ∙ ap (λ (x : Row). output_in x) c.at_mut-row.ensures.value)

pub returns-clause-room : goal.returns-clause-room
returns-clause-room c = on_ok _ _ _
    (λ more. made_at (is_output_numbered c.args.number) output_in room_in c.args.rows.now.items c.in-Some.i _
    (sym c.place_of.ensures ∙ c.in-Some.is) (returns-clause-outputs c) (omega (arith, more)))
    c.reserve.ensures.ok

pub returns-clause-execs : goal.returns-clause-execs
returns-clause-execs c = set_same (λ (r : Row). r.exec) c.at_mut-row.result.now _ c.args.rows.now.items c.in-Some.i (ap (λ (r : Row). r.exec) c.at_mut-row.ensures.value)

pub returns-clause-order : goal.returns-clause-order
returns-clause-order c = sorted_same c.args.rows.now.items _ (set_same (λ (r : Row). r.exec.number) c.at_mut-row.result.now _ c.args.rows.now.items c.in-Some.i (ap (λ (r : Row). r.exec.number) c.at_mut-row.ensures.value)) c.requires
