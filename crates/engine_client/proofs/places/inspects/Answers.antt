use Rattle.std.proofs.Common.{refl, ap, false}
use Rattle.client_model.specs.Commands.Exec.{exec_inspect_request}
use Rattle.client_exchange.specs.Asking.{asked_as, asks_then}
use Rattle.client_model.specs.declared.showing.Showing.TheVariants.{Kept}
use Rattle.engine_client.specs.Places.{plan_at}
use Rattle.engine_client.specs.declared.onward.Then.TheVariants as place
use Rattle.engine_client.proofs.StepLemmas.{step_as}
use Rattle.engine_client.proofs.places.inspects.Goals as goal

pub returns : goal.returns
returns c =
    step_as _ false _ _ (ap (λ t. asks_then (asked_as (exec_inspect_request t) false Kept) (plan_at place.EndsExec)) c.as_str.ensures)
    (c.asks.ensures (exec_inspect_request c.as_str.result.now) c.exec_inspect_request.ensures (λ never. refl))
