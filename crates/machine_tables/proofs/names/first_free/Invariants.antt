use Rattle.std.proofs.Common.{◌≡◌, ◌+◌, ◌-◌}
use Rattle.machine_model.specs.Names.{anonymous, first_free}
use Rattle.machine_tables.proofs.names.first_free.Given as goal

abbrev pub invariant-loop-i : goal.invariant-loop-i
invariant-loop-i l = record {
  name : l.name ≡ anonymous (l.n + l.i);
  same : first_free (l.most - l.i) (l.n + l.i) l.table.containers ≡ first_free l.most l.n l.table.containers;
}
