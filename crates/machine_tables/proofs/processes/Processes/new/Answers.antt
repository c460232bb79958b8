use Rattle.std.proofs.Common.{◌∙◌, ap, sym, arith, length}
use Rattle.machine_tables.proofs.ProcessLemmas.{dues_of}
use Rattle.machine_tables.proofs.processes.Processes.new.Goals as goal

pub invariant_of-result : goal.invariant_of-result
invariant_of-result c = record {
  dues = c.new-2.ensures ∙ ap dues_of (sym c.new.ensures.processes);
  spare = omega arith;
  places = let none = ap length c.new.ensures.processes in omega (arith, none);
}
