use Rattle.std.proofs.Common.{◌∙◌, sym, ap}
use Rattle.exec_table.specs.ExecsInside.{found_id}
use Rattle.exec_table.proofs.RowLemmas.{exec_here, no_exec}
use Rattle.exec_table.proofs.ids.id_of.Goals as goal

pub returns-in-None : goal.returns-in-None
returns-in-None c = sym (ap found_id (no_exec c.args.number c.args.rows.now.items (sym c.place_of.ensures ∙ c.in-None.is)))

pub returns-in-Some : goal.returns-in-Some
returns-in-Some c =
    c.as_str.ensures
    ∙ sym (ap found_id (exec_here c.args.number c.args.rows.now.items c.in-Some.i c.at.result.now (sym c.place_of.ensures ∙ c.in-Some.is) c.at.ensures))
