use Rattle.std.proofs.Common.{◌≡◌, List, ℕ, []}
use Rattle.front_session.specs.Reads.{whole, Progress}
use Rattle.front_session.specs.declared.standing.Stage.TheVariants.{Lost}
use Rattle.front_session.proofs.fronting.read_on.Given as goal

-- some answers were written; none was lost, but before the call
abbrev pub invariant-loop : goal.invariant-loop
invariant-loop g l = record {
  iterator : (goal.iterator-loop g).can_next l.iterator' × (goal.iterator-loop g).is_finite l.iterator';
  went : (texts : List (List ℕ)) × Progress (whole (g.W.TwoWays.source l.fn.ways) (g.W.TwoWays.sink l.fn.ways) l.fn.front)
      (whole (g.W.TwoWays.source l.ways) (g.W.TwoWays.sink l.ways) l.front) texts [];
  lost : l.front.stage ≡ Lost → whole (g.W.TwoWays.source l.ways) (g.W.TwoWays.sink l.ways) l.front
      ≡ whole (g.W.TwoWays.source l.fn.ways) (g.W.TwoWays.sink l.fn.ways) l.fn.front;
}
