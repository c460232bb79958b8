use Rattle.engine_serve.proofs.SendLemmas.{json_same, stopped_sent, stopped_lost}
use Rattle.engine_serve.proofs.answer.send_stopping.Goals as goal

pub returns-in-Ok : goal.returns-in-Ok
returns-in-Ok g c = stopped_sent c.args.terms _ _ _ (json_same c.args.terms _ _ _ _ c.status.ensures c.as_slice-body.ensures) c.in-Ok.ensures

pub returns-in-Err : goal.returns-in-Err
returns-in-Err g c = stopped_lost c.args.terms _ c.in-Err.field-0 _ _ (json_same c.args.terms _ _ _ _ c.status.ensures c.as_slice-body.ensures) c.in-Err.ensures
