use Rattle.std.proofs.Common.{◌∙◌, ap, sym, Some, option_map}
use Rattle.engine_text.specs.declared.log.OwnedLog.{OwnedLog}
use Rattle.exec_table.specs.Execs.{ExecTable, output_log}
use Rattle.exec_table.proofs.RowLemmas.{output_here, no_output}
use Rattle.exec_table.proofs.execs.Execs.output.Goals as goal

pub returns-in-None : goal.returns-in-None
returns-in-None c =
    let at = sym c.place_of.ensures ∙ c.in-None.is in
    sym (ap (option_map (λ (o : OwnedLog). o.log)) (no_output c.args.number c.self.inside.rows.items at)) ∙ ap (λ (t : ExecTable). output_log c.args.number t.outputs) c.self.view_is

pub returns-in-Some : goal.returns-in-Some
returns-in-Some c =
    let at = sym c.place_of.ensures ∙ c.in-Some.is in
    ap Some c.as_slice.ensures
    ∙ sym (ap (option_map (λ (o : OwnedLog). o.log)) (output_here c.args.number c.self.inside.rows.items c.in-Some.i c.at.result.now at c.at.ensures))
    ∙ ap (λ (t : ExecTable). output_log c.args.number t.outputs) c.self.view_is
