use Rattle.std.proofs.Common.{length}
use Rattle.engine_drill.proofs.TallyLemmas.{Tallied}
use Rattle.engine_drill.proofs.counting.tally.Given as goal

abbrev pub invariant-answers : goal.invariant-answers
invariant-answers l = Tallied l.fn.bytes l.rest l.counts.items

abbrev pub decreases-answers : goal.decreases-answers
decreases-answers l = length l.rest
