use Rattle.std.proofs.Common.{refl, ap₂, ◌∙◌, false}
use Rattle.client_model.specs.Commands.Attach.{attach_request}
use Rattle.client_exchange.specs.Asking.{asked_as, asks_then}
use Rattle.client_model.specs.declared.showing.Showing.TheVariants.{Demuxed}
use Rattle.engine_client.specs.Places.{plan_at}
use Rattle.engine_client.specs.declared.onward.Then.TheVariants as place
use Rattle.engine_client.proofs.StepLemmas.{fed_so}
use Rattle.engine_client.proofs.places.attaches.Goals as goal

pub returns : goal.returns
returns c =
    fed_so _ c.args.input _ _ (ap₂ (λ t i. asks_then (asked_as (attach_request t c.args.input) c.args.input Demuxed) (plan_at (place.Waits i c.args.remove))) c.as_str.ensures c.in-Ok.ensures)
    (c.asks.ensures (attach_request c.as_str.result.now c.args.input) c.attach_request-request.ensures (λ is. refl))
