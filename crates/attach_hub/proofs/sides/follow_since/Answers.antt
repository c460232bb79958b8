use Rattle.attach_hub.proofs.ViewLemmas.{finished, unfinished}
use Rattle.attach_hub.proofs.sides.follow_since.Goals as goal

pub returns-in-Ok-clause-follows : goal.returns-in-Ok-clause-follows
returns-in-Ok-clause-follows g c = finished c.args.spec.now _ _ _ c.in-Whole.ensures.follows c.in-Ok.ensures.same c.in-Ok.ensures.says

pub returns-in-Err-clause-follows : goal.returns-in-Err-clause-follows
returns-in-Err-clause-follows g c =
    unfinished c.args.spec.now _ _ _ c.in-Whole.ensures.follows c.in-Err.ensures.same c.in-Err.ensures.says.0 c.in-Err.ensures.says.1
