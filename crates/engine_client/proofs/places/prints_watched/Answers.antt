use Rattle.engine_client.proofs.StepLemmas.{not_told, told_goes}
use Rattle.engine_client.proofs.places.prints_watched.Goals as goal

pub returns-in-None : goal.returns-in-None
returns-in-None c = not_told _ c.args.body.now.items c.in-None.is

pub returns-in-Some : goal.returns-in-Some
returns-in-Some c = told_goes _ c.in-Some.first c.args.body.now.items _ c.in-Some.is c.prints_from.ensures
