use Rattle.std.proofs.Common.{◌≡◌, ◌+◌, ◌≤◌, ◌++◌, List, ◌∙◌, ap, sym, subst, not, length, map, filter, arith}
use Rattle.std.specs.Prelude.{vec_len, vec_capacity}
use Rattle.exec_table.specs.Execs.{ExecTable, is_output_of, rooms_without, without_execs_of}
use Rattle.exec_table.specs.ExecsInside.{execs_in, outputs_in, room_in}
use Rattle.exec_table.specs.declared.row.Row.{Row}
use Rattle.exec_table.proofs.OwnLemmas.{count_passing, execs_failing, outputs_passing, outputs_failing}
use Rattle.exec_table.proofs.OwnerLemmas.{owned_count, owned_rise}
use Rattle.exec_table.proofs.RowLemmas.{rooms_left}
use Rattle.exec_table.proofs.execs.Execs.remove_container.Goals as goal

pub count_of-left-requires : goal.count_of-left-requires
count_of-left-requires c = owned_rise c.self.inside.rows.items c.self.inside.owned.items c.self.invariant.order c.self.invariant.owned

pub move_all-requires-clause-count : goal.move_all-requires-clause-count
move_all-requires-clause-count c = c.count_of-left.ensures ∙ owned_count c.args.container c.self.inside.rows.items c.self.inside.owned.items c.self.invariant.order c.self.invariant.owned

pub move_all-requires-clause-room : goal.move_all-requires-clause-room
move_all-requires-clause-room c =
    let rows : List Row = c.self.inside.rows.items in
    let fits : length (filter (is_output_of c.args.container (execs_in rows)) (outputs_in rows)) + vec_len c.args.into.now ≤ vec_capacity c.args.into.now =
    subst (λ (t : ExecTable). length (filter (is_output_of c.args.container t.execs) t.outputs) + vec_len c.args.into.now ≤ vec_capacity c.args.into.now) (sym c.self.view_is) c.requires in
    let many : c.count_of-left.result ≡ length (filter (is_output_of c.args.container (execs_in rows)) (outputs_in rows)) =
    c.count_of-left.ensures ∙ owned_count c.args.container rows c.self.inside.owned.items c.self.invariant.order c.self.invariant.owned ∙ count_passing c.args.container rows c.self.invariant.order in
    omega (arith, fits, many)

pub returns-clause-execs : goal.returns-clause-execs
returns-clause-execs c =
    ap execs_in c.move_all.ensures.rows ∙ sym (execs_failing c.args.container c.self.inside.rows.items)
    ∙ ap (λ (t : ExecTable). without_execs_of c.args.container t.execs) c.self.view_is

pub returns-clause-outputs : goal.returns-clause-outputs
returns-clause-outputs c =
    ap outputs_in c.move_all.ensures.rows ∙ sym (outputs_failing c.args.container c.self.inside.rows.items c.self.invariant.order)
    ∙ ap (λ (t : ExecTable). filter (λ o. not (is_output_of c.args.container t.execs o)) t.outputs) c.self.view_is

pub returns-clause-rooms : goal.returns-clause-rooms
returns-clause-rooms c =
    ap (map room_in) c.move_all.ensures.rows ∙ rooms_left c.args.container c.self.inside.rows.items
    ∙ ap (λ (t : ExecTable). rooms_without c.args.container t.execs t.rooms) c.self.view_is

pub returns-clause-into : goal.returns-clause-into
returns-clause-into c =
    c.move_all.ensures.into
    ∙ ap (λ l. c.args.into.now.items ++ l) (sym (outputs_passing c.args.container c.self.inside.rows.items c.self.invariant.order))
    ∙ ap (λ (t : ExecTable). c.args.into.now.items ++ filter (is_output_of c.args.container t.execs) t.outputs) c.self.view_is
