use Rattle.std.proofs.Common.{refl, Some}
use Rattle.engine_client.proofs.StepLemmas.{from_first, from_later}
use Rattle.engine_client.proofs.places.prints_from.Goals as goal

pub returns-then-first-eq0 : goal.returns-then-first-eq0
returns-then-first-eq0 c = from_first (Some c.args.first) c.args.first c.args.body.now.items _ refl c.if-first-eq0.true c.prints_events.ensures

pub returns-else-first-eq0 : goal.returns-else-first-eq0
returns-else-first-eq0 c = from_later (Some c.args.first) c.args.first c.args.body.now.items refl c.if-first-eq0.false
