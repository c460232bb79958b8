use Rattle.std.proofs.Common.{ℕ, ◌≤◌, ◌+◌, ◌-◌, List, length}
use Rattle.health_watch.specs.declared.health.Change.{Change}
use Rattle.health_watch.specs.Advancing.{AreSized, IsAt, HasCome}
use Rattle.health_watch.proofs.position.Position.find.Given as goal

-- it came so far without a change
abbrev pub invariant-loop-change : goal.invariant-loop-change
invariant-loop-change l = record {
  came : (cs : List Change) (from since : ℕ) → IsAt l.spec l.marks l.fn.self.place l.fn.self.reached cs from since
      → from ≤ l.until + 1 → since ≤ l.until → HasCome l.spec l.marks l.until l.self cs from;
  sized : AreSized l.self.reached.tally.streak l.self.reached.run;
}

abbrev pub decreases-loop-change : goal.decreases-loop-change
decreases-loop-change l = length l.marks - l.self.place
