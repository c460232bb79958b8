use Rattle.std.proofs.Common.{inr, refl}
use Rattle.client_exchange.proofs.ExchangeLemmas.{talked, missed}
use Rattle.client_exchange.proofs.feeding.exchange_with_input.Goals as goal

pub returns-in_default-connect : goal.returns-in_default-connect
returns-in_default-connect g c = inr (refl, missed c.args.address.now _ _ _ c.in_default-connect.ensures)

pub returns : goal.returns
returns g c =
    talked _ _ _ _ _ _ _ _ c.in-Ok-connect.ensures c.leave.ensures c.args.request.now c.talk-got.result c.args.taker.now.showing c.talk-got.new.taker _ _ _ _
    c.talk-got.ensures
