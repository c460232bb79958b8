use Rattle.std.proofs.Common.{ap, false}
use Rattle.client_model.specs.Plans.{prints_all, done}
use Rattle.client_model.specs.Commands.Health.{lines_in}
use Rattle.engine_client.proofs.StepLemmas.{step_as, read_goes, read_fails}
use Rattle.engine_client.proofs.checking.prints_lines.Goals as goal

pub returns-in-Ok : goal.returns-in-Ok
returns-in-Ok c =
    read_goes (lines_in c.args.until.now c.args.checked.now) (λ lines. prints_all lines done) _ c.args.body.now.items c.in-Ok.lines _ false c.deref.ensures.value c.in-Ok.ensures
    (step_as _ false _ _ (ap (λ l. prints_all l done) c.as_slice.ensures) c.prints_all.ensures)

pub returns-in-Err : goal.returns-in-Err
returns-in-Err c = read_fails (lines_in c.args.until.now c.args.checked.now) (λ lines. prints_all lines done) _ c.args.body.now.items c.in-Err.fault false c.deref.ensures.value c.in-Err.ensures
