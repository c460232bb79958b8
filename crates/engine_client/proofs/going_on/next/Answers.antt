use Rattle.std.proofs.Common.{Some}
use Rattle.engine_client.specs.Places.{feeds_at, plan_at}
use Rattle.engine_client.proofs.StepLemmas.{named_step, named_fault}
use Rattle.engine_client.proofs.going_on.next.Goals as goal

pub returns-in-Ok : goal.returns-in-Ok
returns-in-Ok c = named_step c.args.body.line (Some c.args.body.status) c.in-Ok.step (feeds_at c.args.place.now) _ c.in-Ok.ensures

pub returns-in-Err : goal.returns-in-Err
returns-in-Err c = named_fault c.args.body.line (Some c.args.body.status) c.in-Err.fault c.fault_to.result (feeds_at c.args.place.now) _ c.fault_to.ensures c.in-Err.ensures
