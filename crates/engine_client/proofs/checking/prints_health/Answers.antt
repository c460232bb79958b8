use Rattle.engine_client.proofs.StepLemmas.{health_untold, health_told}
use Rattle.engine_client.proofs.checking.prints_health.Goals as goal

pub returns-in-None : goal.returns-in-None
returns-in-None c = health_untold c.args.until.now c.args.checked.now _ c.args.body.now.items c.in-None.is

pub returns-in-Some : goal.returns-in-Some
returns-in-Some c = health_told c.args.until.now c.args.checked.now _ c.in-Some.first c.args.body.now.items _ c.in-Some.is c.prints_from.ensures
