use Rattle.std.proofs.Common.{ap, ◌∙◌, false}
use Rattle.client_model.specs.Plans.{prints, done}
use Rattle.engine_client.proofs.StepLemmas.{step_as}
use Rattle.engine_client.proofs.printing.prints_code.Goals as goal

pub returns : goal.returns
returns c = step_as _ false _ _ (ap (λ l. prints l done) (c.as_bytes.ensures.value ∙ c.format.ensures.text)) c.prints.ensures
