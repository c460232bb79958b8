use Rattle.std.proofs.Common.{◌∙◌, ap, sym, Ok, Err}
use Rattle.exec_table.specs.Execs.{ExecTable, exec_numbered, exec_with_id}
use Rattle.exec_table.specs.ExecsInside.{execs_in}
use Rattle.exec_table.proofs.IdLemmas.{located, found_here, none_here}
use Rattle.exec_table.proofs.execs.Execs.find.Goals as goal

pub returns-in-Ok : goal.returns-in-Ok
returns-in-Ok c =
    let there = located c.self.inside.rows.items c.args.id.now c.self.inside.ids.items (Ok c.in-Ok.i) c.self.invariant.order c.self.invariant.ids c.in-Ok.ensures.bound c.in-Ok.ensures.place in
    c.find_number.ensures
    ∙ ap (λ (t : ExecTable). exec_numbered c.at.result.now t.execs) (sym c.self.view_is)
    ∙ ap (λ n. exec_numbered n (execs_in c.self.inside.rows.items)) c.at.ensures
    ∙ found_here c.self.inside.rows.items c.args.id.now c.self.inside.ids.items c.in-Ok.i c.at.result.now c.self.invariant.order c.self.invariant.ids there
    ∙ ap (λ (t : ExecTable). exec_with_id c.args.id.now t.execs) c.self.view_is

pub returns-in-Err : goal.returns-in-Err
returns-in-Err c =
    let there = located c.self.inside.rows.items c.args.id.now c.self.inside.ids.items (Err c.in-Err.field-0) c.self.invariant.order c.self.invariant.ids c.in-Err.ensures.bound c.in-Err.ensures.place in
    sym (none_here c.args.id.now (execs_in c.self.inside.rows.items) c.in-Err.field-0 there)
    ∙ ap (λ (t : ExecTable). exec_with_id c.args.id.now t.execs) c.self.view_is
