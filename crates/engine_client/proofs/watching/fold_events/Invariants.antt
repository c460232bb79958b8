use Rattle.std.proofs.Common.{length}
use Rattle.engine_client.proofs.WatchLemmas.{Folds}
use Rattle.engine_client.proofs.watching.fold_events.Given as goal

abbrev pub invariant-lines : goal.invariant-lines
invariant-lines l = Folds l.rows l.rest l.body

abbrev pub decreases-lines : goal.decreases-lines
decreases-lines l = length l.rest
