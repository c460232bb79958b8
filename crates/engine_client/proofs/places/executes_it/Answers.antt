use Rattle.std.proofs.Common.{refl, ap}
use Rattle.client_model.specs.Commands.Exec.{exec_start_request}
use Rattle.client_exchange.specs.Asking.{asked_as, asks_then}
use Rattle.client_model.specs.declared.showing.Showing.TheVariants.{Demuxed}
use Rattle.engine_client.specs.Places.{plan_at}
use Rattle.engine_client.specs.declared.onward.Then.TheVariants as place
use Rattle.engine_client.proofs.StepLemmas.{fed_so}
use Rattle.engine_client.proofs.places.executes_it.Goals as goal

pub returns : goal.returns
returns c =
    fed_so _ c.args.input _ _ (ap (λ t. asks_then (asked_as (exec_start_request t) c.args.input Demuxed) (plan_at (place.Inspects c.args.id))) c.as_str.ensures)
    (c.asks.ensures (exec_start_request c.as_str.result.now) c.exec_start_request-request.ensures (λ is. refl))
