use Rattle.std.proofs.Common.{refl, ap, false}
use Rattle.client_model.specs.Plans.{asks_and_prints}
use Rattle.engine_client.proofs.StepLemmas.{step_as}
use Rattle.engine_client.proofs.asking.asks_and_prints.Goals as goal

pub returns : goal.returns
returns c = λ r is. step_as _ false _ _ (ap (asks_and_prints r) c.in-Ok.ensures) (c.asks.ensures r is (λ never. refl))
