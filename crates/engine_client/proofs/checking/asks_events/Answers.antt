use Rattle.std.proofs.Common.{refl, ap₂, false, List, ℕ}
use Rattle.http_edge.specs.Message.{Request}
use Rattle.client_model.specs.Commands.Health.{container_events_request}
use Rattle.client_exchange.specs.Asking.{asked_as, asks_then}
use Rattle.client_model.specs.declared.showing.Showing.TheVariants.{Kept}
use Rattle.engine_client.specs.Places.{plan_at}
use Rattle.engine_client.specs.declared.onward.Then.TheVariants as place
use Rattle.engine_client.proofs.StepLemmas.{step_as}
use Rattle.engine_client.proofs.checking.asks_events.Goals as goal

pub returns : goal.returns
returns c =
    step_as _ false _ _ (ap₂ (λ (r : Request) (u : List ℕ). asks_then (asked_as r false Kept) (plan_at (place.PrintsHealth u c.args.checked)))
    (ap₂ container_events_request c.as_str.ensures c.as_str-2.ensures) c.in-Ok.ensures)
    (c.asks.ensures (container_events_request c.as_str.result.now c.as_str-2.result.now) c.container_events_request-request.ensures (λ never. refl))
