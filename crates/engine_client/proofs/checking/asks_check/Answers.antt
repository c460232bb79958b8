use Rattle.std.proofs.Common.{refl, ap₂, false}
use Rattle.client_model.specs.Commands.Inspect.{inspect_request}
use Rattle.client_exchange.specs.Asking.{asked_as, asks_then}
use Rattle.client_model.specs.declared.showing.Showing.TheVariants.{Kept}
use Rattle.engine_client.specs.Places.{plan_at}
use Rattle.engine_client.specs.declared.onward.Then.TheVariants as place
use Rattle.engine_client.proofs.StepLemmas.{step_as}
use Rattle.engine_client.proofs.checking.asks_check.Goals as goal

pub returns : goal.returns
returns c =
    step_as _ false _ _ (ap₂ (λ t u. asks_then (asked_as (inspect_request t) false Kept) (plan_at (place.AsksEvents u))) c.as_str.ensures c.in-Ok.ensures)
    (c.asks.ensures (inspect_request c.as_str.result.now) c.inspect_request-request.ensures (λ never. refl))
