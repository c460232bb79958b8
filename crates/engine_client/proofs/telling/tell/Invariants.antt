use Rattle.engine_client.proofs.TellLemmas.{HasTold, left}
use Rattle.engine_client.proofs.telling.tell.Given as goal

abbrev pub invariant-changes : goal.invariant-changes
invariant-changes l = HasTold l.id l.attributes l.until l.fn.watch l.watch l.fn.lines l.lines

abbrev pub decreases-changes : goal.decreases-changes
decreases-changes l = left l.until l.watch.told
