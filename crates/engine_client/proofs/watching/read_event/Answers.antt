use Rattle.engine_client.proofs.WatchLemmas.{event_taken, event_refused_as}
use Rattle.engine_client.proofs.watching.read_event.Goals as goal

pub returns-in-Ok-clause-reads : goal.returns-in-Ok-clause-reads
returns-in-Ok-clause-reads c = λ front ends. event_taken front c.args.line.now c.in-Ok.event ends c.in-Ok.ensures.taken.0 c.in-Ok.ensures.taken.1

pub returns-in-Err-BadBody-clause-reads : goal.returns-in-Err-BadBody-clause-reads
returns-in-Err-BadBody-clause-reads c = λ front ends.
    event_refused_as front c.args.line.now c.in-Err-BadBody.field-0 _ c.in-Err-BadBody.field-0-is ends c.in-Err-BadBody.ensures.refused
