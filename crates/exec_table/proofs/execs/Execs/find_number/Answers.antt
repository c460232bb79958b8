use Rattle.std.proofs.Common.{◌∙◌, ap, sym}
use Rattle.exec_table.specs.Execs.{ExecTable, exec_numbered}
use Rattle.exec_table.proofs.RowLemmas.{exec_here, no_exec}
use Rattle.exec_table.proofs.execs.Execs.find_number.Goals as goal

pub returns-in-None : goal.returns-in-None
returns-in-None c =
    let at = sym c.place_of.ensures ∙ c.in-None.is in
    sym (no_exec c.args.number c.self.inside.rows.items at) ∙ ap (λ (t : ExecTable). exec_numbered c.args.number t.execs) c.self.view_is

pub returns-in-Some : goal.returns-in-Some
returns-in-Some c =
    let at = sym c.place_of.ensures ∙ c.in-Some.is in
    sym (exec_here c.args.number c.self.inside.rows.items c.in-Some.i c.at.result.now at c.at.ensures) ∙ ap (λ (t : ExecTable). exec_numbered c.args.number t.execs) c.self.view_is
