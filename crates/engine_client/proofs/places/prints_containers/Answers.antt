use Rattle.std.proofs.Common.{ap, false, decimal}
use Rattle.client_model.specs.Bodies.{container_lines_in}
use Rattle.client_model.specs.Plans.{prints, prints_all, done, ends}
use Rattle.client_model.specs.Commands.Run.{removes}
use Rattle.engine_client.specs.Steps as steps
use Rattle.engine_client.proofs.StepLemmas.{step_as, read_goes, read_fails}
use Rattle.engine_client.proofs.places.prints_containers.Goals as goal

pub returns-in-Ok : goal.returns-in-Ok
returns-in-Ok c = read_goes container_lines_in (λ lines. prints_all lines done) _ c.args.body.now.items c.in-Ok.lines _ false c.deref.ensures.value c.in-Ok.ensures (step_as _ false _ _ (ap (λ l. prints_all l done) c.as_slice.ensures) c.prints_all.ensures)

pub returns-in-Err : goal.returns-in-Err
returns-in-Err c = read_fails container_lines_in (λ lines. prints_all lines done) _ c.args.body.now.items c.in-Err.fault false c.deref.ensures.value c.in-Err.ensures
