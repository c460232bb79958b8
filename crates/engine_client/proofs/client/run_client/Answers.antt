use Rattle.engine_client.proofs.CallLemmas.{ran_ok, ran_err}
use Rattle.engine_client.proofs.client.run_client.Goals as goal

pub returns-in-Ok : goal.returns-in-Ok
returns-in-Ok g c = ran_ok c.args.words.now c.in-Ok.status _ _ c.in-Ok.ensures

pub returns-in-Err : goal.returns-in-Err
returns-in-Err g c = ran_err c.args.words.now c.in-Err.fault c.tell.result _ _ _ c.in-Err.ensures c.tell.ensures
