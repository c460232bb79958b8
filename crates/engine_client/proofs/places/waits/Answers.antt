use Rattle.std.proofs.Common.{refl, ap₂, ◌∙◌, false}
use Rattle.client_model.specs.Commands.Wait.{wait_request}
use Rattle.client_model.specs.Plans.{ends}
use Rattle.client_exchange.specs.Asking.{asked_as, asks_then}
use Rattle.client_model.specs.declared.showing.Showing.TheVariants.{Kept}
use Rattle.engine_client.specs.Places.{plan_at}
use Rattle.engine_client.specs.declared.onward.Then.TheVariants as place
use Rattle.engine_client.proofs.StepLemmas.{step_as}
use Rattle.engine_client.proofs.places.waits.Goals as goal

pub returns : goal.returns
returns c =
    step_as _ false _ _ (ap₂ (λ t i. asks_then (asked_as (wait_request t) false Kept) (plan_at (place.Removes i c.args.remove))) c.as_str.ensures c.in-Ok.ensures)
    (c.asks.ensures (wait_request c.as_str.result.now) c.wait_request-request.ensures (λ never. refl))
