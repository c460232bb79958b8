use Rattle.std.proofs.Common.{ℕ, ◌≤◌, List, drop}
use Rattle.health_watch.specs.declared.health.Change.{Change}
use Rattle.health_watch.specs.declared.mark.Mark.{Mark}
use Rattle.health_watch.specs.Reaching.{RiseFrom}
use Rattle.health_watch.specs.Advancing.{AreSized, IsAt, HasAdvanced}
use Rattle.health_watch.proofs.WatchLemmas.{left_in}
use Rattle.health_watch.proofs.reached.Reached.advance.Given as goal

-- it went on without a change
abbrev pub invariant-loop-found : goal.invariant-loop-found
invariant-loop-found l = record {
  went : (marks : List Mark) (place : ℕ) (cs : List Change) (from since : ℕ) → IsAt l.spec marks place l.fn.self cs from since
      → RiseFrom l.limit (drop place marks) → from ≤ l.limit → HasAdvanced l.spec marks place l.limit l.self cs from since;
  sized : AreSized l.self.tally.streak l.self.run;
}

abbrev pub decreases-loop-found : goal.decreases-loop-found
decreases-loop-found l = left_in l.self.run
