use Rattle.std.proofs.Common.{inr}
use Rattle.client_exchange.proofs.ExchangeLemmas.{exchanged, missed}
use Rattle.client_exchange.proofs.connection.exchange.Goals as goal

pub returns-in_default-connect : goal.returns-in_default-connect
returns-in_default-connect g c = inr (inr (missed c.args.address.now _ _ _ c.in_default-connect.ensures))

pub returns : goal.returns
returns g c =
    exchanged _ _ _ _ _ _ _ _ c.in-Ok-connect.ensures c.leave.ensures c.args.request.now c.converse-got.result c.args.taker.now.showing c.converse-got.new.taker _ _
    c.converse-got.ensures
