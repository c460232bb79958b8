use Rattle.std.proofs.Common.{◌≡◌, ◌-◌, Some, arith, List, sym, ap, ◌∙◌, position, eqb}
use Rattle.std.proofs.lemmas.List.Quantifiers.{position-Some}
use Rattle.engine_text.specs.declared.log.LogRecord.{LogRecord}
use Rattle.exec_table.specs.Execs.{is_output_numbered, with_record}
use Rattle.exec_table.specs.ExecsInside.{output_in, room_in}
use Rattle.exec_table.specs.declared.row.Row.{Row}
use Rattle.exec_table.proofs.OrderLemmas.{sorted_same}
use Rattle.exec_table.proofs.RowLemmas.{changed_in, unchanged_in, place_in, room_of, room_used, room_unused, set_same}
use Rattle.exec_table.proofs.rows.write.Goals as goal

pub push_reserved-requires : goal.push_reserved-requires
push_reserved-requires c =
    let at : position (λ (r : Row). eqb r.exec.number c.args.number) c.args.rows.now.items ≡ Some c.in-Some.i = sym c.place_of.ensures ∙ c.in-Some.is in
    let q = position-Some (λ (r : Row). eqb r.exec.number c.args.number) c.args.rows.now.items c.in-Some.i c.at_mut-row.result.now at in
    room_of room_in c.args.rows.now.items c.in-Some.i c.at_mut-row.result.now q.0 c.at_mut-row.ensures.value
    (c.requires.room c.in-Some.i (place_in (is_output_numbered c.args.number) output_in c.args.rows.now.items ∙ at))

pub returns-in-Some-clause-outputs : goal.returns-in-Some-clause-outputs
returns-in-Some-clause-outputs c = changed_in (is_output_numbered c.args.number) output_in (with_record c.args.written) c.args.rows.now.items c.in-Some.i c.at_mut-row.result.now _
    (sym c.place_of.ensures ∙ c.in-Some.is)
    (ap (λ (l : List LogRecord). record (output_in c.at_mut-row.result.now) { log = l }) c.push_reserved.ensures.records
    ∙ ap (λ (x : Row). with_record c.args.written (output_in x)) c.at_mut-row.ensures.value)

pub returns-in-Some-clause-rooms : goal.returns-in-Some-clause-rooms
returns-in-Some-clause-rooms c =
    let less : c.push_reserved.new.self.room ≡ c.at_mut-row.result.now.log.room - 1 = omega (arith, c.push_reserved.ensures.room) in
    room_used c.args.number c.args.rows.now.items c.in-Some.i c.at_mut-row.result.now _ (sym c.place_of.ensures ∙ c.in-Some.is)
    (less ∙ ap (λ (r : Row). room_in r - 1) c.at_mut-row.ensures.value)

pub returns-in-Some-clause-execs : goal.returns-in-Some-clause-execs
returns-in-Some-clause-execs c = set_same (λ (r : Row). r.exec) c.at_mut-row.result.now _ c.args.rows.now.items c.in-Some.i (ap (λ (r : Row). r.exec) c.at_mut-row.ensures.value)

pub returns-in-Some-clause-order : goal.returns-in-Some-clause-order
returns-in-Some-clause-order c = sorted_same c.args.rows.now.items _ (set_same (λ (r : Row). r.exec.number) c.at_mut-row.result.now _ c.args.rows.now.items c.in-Some.i (ap (λ (r : Row). r.exec.number) c.at_mut-row.ensures.value)) c.requires.order

pub returns-in_default-clause-outputs : goal.returns-in_default-clause-outputs
returns-in_default-clause-outputs c = unchanged_in (is_output_numbered c.args.number) output_in (with_record c.args.written) c.args.rows.now.items
    (sym c.place_of.ensures ∙ c.in_default.is)

pub returns-in_default-clause-rooms : goal.returns-in_default-clause-rooms
returns-in_default-clause-rooms c = room_unused c.args.number c.args.rows.now.items (sym c.place_of.ensures ∙ c.in_default.is)
