use Rattle.std.proofs.Common.{ap, false, decimal}
use Rattle.client_model.specs.Bodies.{status_code_in}
use Rattle.client_model.specs.Plans.{prints, prints_all, done, ends}
use Rattle.client_model.specs.Commands.Run.{removes}
use Rattle.engine_client.specs.Steps as steps
use Rattle.engine_client.proofs.StepLemmas.{step_as, read_goes, read_fails}
use Rattle.engine_client.proofs.places.prints_exit.Goals as goal

pub returns-in-Ok : goal.returns-in-Ok
returns-in-Ok c = read_goes status_code_in (λ code. prints (decimal code) done) _ c.args.body.now.items c.in-Ok.code _ false c.deref.ensures.value c.in-Ok.ensures c.prints_code.ensures

pub returns-in-Err : goal.returns-in-Err
returns-in-Err c = read_fails status_code_in (λ code. prints (decimal code) done) _ c.args.body.now.items c.in-Err.fault false c.deref.ensures.value c.in-Err.ensures
