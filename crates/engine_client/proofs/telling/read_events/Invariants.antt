use Rattle.std.proofs.Common.{length}
use Rattle.engine_client.proofs.EventLemmas.{AreRead}
use Rattle.engine_client.proofs.telling.read_events.Given as goal

abbrev pub invariant-lines : goal.invariant-lines
invariant-lines l = AreRead l.events.items l.rest l.body

abbrev pub decreases-lines : goal.decreases-lines
decreases-lines l = length l.rest
