use Rattle.engine_client.proofs.PerformLemmas.{goes_by, asked_wrong}
use Rattle.client_exchange.specs.Asking.{asked_as}
use Rattle.engine_client.proofs.performing.ask_and_go_on.Goals as goal

pub returns-in-Ok : goal.returns-in-Ok
returns-in-Ok g c = λ r is. goes_by (asked_as r c.args.request.now.input c.args.request.now.showing) c.args.place.now _ _ _ _ c.in-Ok.body c.go_on.result (c.in-Ok.ensures r is) c.go_on.ensures

pub returns-in-Err : goal.returns-in-Err
returns-in-Err g c = λ r is. asked_wrong (asked_as r c.args.request.now.input c.args.request.now.showing) c.args.place.now _ _ _ _ c.in-Err.fault (c.in-Err.ensures r is)
