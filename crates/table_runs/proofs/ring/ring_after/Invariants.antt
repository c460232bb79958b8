use Rattle.std.proofs.Common.{◌≡◌}
use Rattle.table_runs.proofs.ring.ring_after.Given as goal

abbrev pub invariant-events : goal.invariant-events
invariant-events l = l.ring.count ≡ l.moment
