use Rattle.attach_hub.proofs.OverLemmas.{runs_unfed}
use Rattle.attach_hub.proofs.sides.take_over.Goals as goal

pub returns-in-None-clause-runs : goal.returns-in-None-clause-runs
returns-in-None-clause-runs g c =
    runs_unfed c.args.conn.now.who.number c.args.spec.now c.follow_since-followed.result _ _ _ _ _ _ _ _ c.requires.numbers.pair c.requires.may c.in-None.is
    c.follow_since-followed.ensures.follows
