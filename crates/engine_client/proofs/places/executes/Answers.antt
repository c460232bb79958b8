use Rattle.std.proofs.Common.{ap, false, decimal}
use Rattle.client_model.specs.Bodies.{id_in}
use Rattle.client_model.specs.Plans.{prints, prints_all, done, ends}
use Rattle.client_model.specs.Commands.Run.{removes}
use Rattle.engine_client.specs.Steps as steps
use Rattle.engine_client.proofs.StepLemmas.{step_as, read_goes, read_fails}
use Rattle.engine_client.proofs.places.executes.Goals as goal

pub returns-in-Ok : goal.returns-in-Ok
returns-in-Ok c = read_goes id_in (λ id. steps.executes c.args.input id) _ c.args.body.now.items c.in-Ok.id _ c.args.input c.deref.ensures.value c.in-Ok.ensures c.executes_it.ensures

pub returns-in-Err : goal.returns-in-Err
returns-in-Err c = read_fails id_in (λ id. steps.executes c.args.input id) _ c.args.body.now.items c.in-Err.fault c.args.input c.deref.ensures.value c.in-Err.ensures
