use Rattle.std.proofs.Common.{drop, take}
use Rattle.engine_client.proofs.TellLemmas.{IsSoFar}
use Rattle.engine_client.proofs.telling.lines_of.Given as goal

abbrev pub invariant-events : goal.invariant-events
invariant-events l = IsSoFar l.checked l.end (take l.event-index l.events) (drop l.event-index l.events) l.watch l.lines l.attributes
