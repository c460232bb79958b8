use Rattle.std.proofs.Common.{refl}
use Rattle.client_exchange.proofs.asking.exchange_as.Goals as goal

pub returns-then-fed : goal.returns-then-fed
returns-then-fed g c = rw c.if-fed.true c.exchange_with_input.ensures

pub returns-else-fed : goal.returns-else-fed
returns-else-fed g c = rw c.if-fed.false (c.exchange.ensures, refl)
