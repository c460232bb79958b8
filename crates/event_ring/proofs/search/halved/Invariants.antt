use Rattle.std.proofs.Common.{◌-◌}
use Rattle.event_ring.proofs.RingLemmas.{Halves}
use Rattle.event_ring.proofs.search.halved.Given as goal

abbrev pub invariant-halving : goal.invariant-halving
invariant-halving l = Halves l.moment l.kept.items l.low l.high

abbrev pub decreases-halving : goal.decreases-halving
decreases-halving l = l.high - l.low
