use Rattle.std.proofs.Common.{ap, false, decimal}
use Rattle.client_model.specs.Bodies.{id_in}
use Rattle.client_model.specs.Plans.{prints, prints_all, done, ends}
use Rattle.client_model.specs.Commands.Run.{removes}
use Rattle.engine_client.specs.Steps as steps
use Rattle.engine_client.proofs.StepLemmas.{step_as, read_goes, read_fails}
use Rattle.engine_client.proofs.places.prints_id.Goals as goal

pub returns-in-Ok : goal.returns-in-Ok
returns-in-Ok c = read_goes id_in (λ id. prints id done) _ c.args.body.now.items c.in-Ok.id _ false c.deref.ensures.value c.in-Ok.ensures (step_as _ false _ _ (ap (λ l. prints l done) c.as_slice.ensures) c.prints.ensures)

pub returns-in-Err : goal.returns-in-Err
returns-in-Err c = read_fails id_in (λ id. prints id done) _ c.args.body.now.items c.in-Err.fault false c.deref.ensures.value c.in-Err.ensures
