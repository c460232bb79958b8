use Rattle.std.proofs.Common.{refl, ap, false}
use Rattle.client_model.specs.Commands.Start.{start_request}
use Rattle.client_exchange.specs.Asking.{asked_as, asks_then}
use Rattle.client_model.specs.declared.showing.Showing.TheVariants.{Kept}
use Rattle.engine_client.specs.Places.{plan_at}
use Rattle.engine_client.specs.declared.onward.Then.TheVariants as place
use Rattle.engine_client.proofs.StepLemmas.{step_as, not_so}
use Rattle.engine_client.proofs.places.starts_it.Goals as goal

pub returns : goal.returns
returns c =
    step_as _ c.args.input _ _ (ap (λ t. asks_then (asked_as (start_request t) false Kept) (plan_at (place.Attaches c.args.id c.args.input c.args.remove))) c.as_str.ensures)
    (c.asks.ensures (start_request c.as_str.result.now) c.start_request-request.ensures (λ never. absurd (not_so never)))
