use Rattle.engine_client.proofs.StepLemmas.{health_first, health_gone}
use Rattle.engine_client.proofs.checking.prints_from.Goals as goal

pub returns-then-first-eq0 : goal.returns-then-first-eq0
returns-then-first-eq0 c = health_first c.args.until.now c.args.checked.now c.args.first c.args.body.now.items _ c.if-first-eq0.true c.prints_lines.ensures

pub returns-else-first-eq0 : goal.returns-else-first-eq0
returns-else-first-eq0 c = health_gone c.args.until.now c.args.checked.now c.args.first c.args.body.now.items c.if-first-eq0.false
