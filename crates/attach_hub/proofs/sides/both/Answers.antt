use Rattle.attach_hub.proofs.ViewLemmas.{is_other_at, one_by_one_at, side_by_side_at}
use Rattle.attach_hub.proofs.sides.both.Goals as goal

pub returns-in-None-clause-runs : goal.returns-in-None-clause-runs
returns-in-None-clause-runs g c =
    let its = g.met.T.Turns.counted in
    one_by_one_at c.args.spec.now c.pump_stdin-end.result c.follow_since-followed.result _ _ _ _ _ _ _ _ _ _ _ _ c.conn.view_is
    c.requires.numbers.pair c.requires.may c.in-None.ensures.none (its c.part.new.self) (its c.pump_stdin-end.new.turns)
    c.twin-twin.ensures c.pump_stdin-end.ensures c.follow_since-followed.ensures.follows c.conn-in-None.view_is c.rejoin-in-None.ensures

pub returns-in-Some-clause-runs : goal.returns-in-Some-clause-runs
returns-in-Some-clause-runs g c =
    side_by_side_at c.args.spec.now c.side_by_side-ends.result.0 c.side_by_side-ends.result.1 _ _ _ _ _ _ _ _ _ _ _ _ _ _ c.conn.view_is
    c.requires.may c.in-Some.ensures.some c.twin-twin.ensures c.side_by_side-ends.ensures.pumped c.side_by_side-ends.ensures.followed
    c.side_by_side-ends.ensures.same c.conn-in-Some.view_is c.rejoin.ensures.some c.rejoin-in-Some.ensures

pub rejoin-requires : goal.rejoin-requires
rejoin-requires g c =
    is_other_at c.args.spec.now c.side_by_side-ends.result.0 c.side_by_side-ends.result.1 _ _ _ _ _ _ _ _ _ _ _ _ c.conn.view_is
    c.requires.may c.in-Some.ensures.some c.side_by_side-ends.ensures.pumped c.side_by_side-ends.ensures.followed
    c.side_by_side-ends.ensures.same c.conn-in-Some.view_is
