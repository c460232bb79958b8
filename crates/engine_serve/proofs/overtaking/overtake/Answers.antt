use Rattle.engine_serve.proofs.RequestLemmas.{head_lost_at, taken_over_at}
use Rattle.engine_serve.proofs.overtaking.overtake.Goals as goal

pub returns-in-Err-clause-overtakes : goal.returns-in-Err-clause-overtakes
returns-in-Err-clause-overtakes g c =
    head_lost_at c.args.upgrade c.args.spec.now c.in-Err.field-0 _ _ _ _ _ c.conn.view_is c.requires.numbers c.in-Err.ensures

pub returns-in-Ok-clause-overtakes : goal.returns-in-Ok-clause-overtakes
returns-in-Ok-clause-overtakes g c =
    taken_over_at c.args.upgrade c.args.spec.now c.take_over-followed.result.0 c.take_over-followed.result.1 c.ending_of.result _ _ _ _ _ _ _
    c.conn.view_is c.in-Ok.ensures c.take_over-followed.ensures.runs c.ending_of.ensures
