use Rattle.client_model.specs.Streams.{event_in}
use Rattle.engine_client.proofs.WatchLemmas.{read_fails}
use Rattle.engine_client.proofs.watching.fold_line.Goals as goal

pub returns-in-Ok : goal.returns-in-Ok
returns-in-Ok c = λ front ends. c.fold_event.ensures (event_in front) (c.in-Ok.ensures.reads front ends)

pub returns-in-Err : goal.returns-in-Err
returns-in-Err c = λ front ends. read_fails c.in-Err.fault (event_in front) _ (c.in-Err.ensures.reads front ends)
