use Rattle.std.proofs.Common.{ap, inl, map, refl, ◌∙◌, false}
use Rattle.client_model.specs.Commands.Watch.{row_line}
use Rattle.client_model.specs.Plans.{prints_all, done}
use Rattle.engine_client.proofs.StepLemmas.{step_as}
use Rattle.engine_client.proofs.places.prints_rows.Goals as goal

pub returns-in-Ok : goal.returns-in-Ok
returns-in-Ok c = step_as _ false _ _ (ap (λ l. prints_all l done) (c.as_slice.ensures ∙ c.in-Ok.ensures ∙ ap (map row_line) c.folds.ensures)) c.prints_all.ensures

pub returns-in-Err : goal.returns-in-Err
returns-in-Err c = inl refl
