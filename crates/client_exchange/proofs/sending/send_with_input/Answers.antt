use Rattle.client_exchange.proofs.SendLemmas.{sent_behind, unsent_request}
use Rattle.client_exchange.proofs.sending.send_with_input.Goals as goal

pub returns-in-Ok : goal.returns-in-Ok
returns-in-Ok g c = sent_behind c.args.request.now c.in-Ok.field-0 _ _ _ _ _ c.in-Ok.ensures c.send_input.result c.send_input.ensures

pub returns-in-Err : goal.returns-in-Err
returns-in-Err g c = unsent_request c.args.request.now c.in-Err.field-0 _ _ _ c.in-Err.ensures
