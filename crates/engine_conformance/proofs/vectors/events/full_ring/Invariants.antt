use Rattle.std.proofs.Common.{◌≡◌}
use Rattle.engine_conformance.proofs.vectors.events.full_ring.Given as goal

abbrev pub invariant-events : goal.invariant-events
invariant-events l = l.ring.count ≡ l.moment
