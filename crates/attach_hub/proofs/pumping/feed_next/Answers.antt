use Rattle.std.proofs.Common.{subst, take, Ok}
use Rattle.engine_text.specs.declared.call.Call.TheVariants.{Feed}
use Rattle.attach_hub.specs.Pumping.{Hears}
use Rattle.attach_hub.proofs.PumpLemmas.{input_ended, piece_fed, piece_gone, piece_unfed, read_failed}
use Rattle.attach_hub.proofs.pumping.feed_next.Goals as goal

pub returns-in-End-clause-says : goal.returns-in-End-clause-says
returns-in-End-clause-says g c =
    let e = c.in-End.ensures in
    input_ended c.args.conn c.args.spec.now c.args.run c.end_input.result _ _ _ _ _ _ _ c.requires.feed e.1 e.2 e.3 c.end_input.ensures

pub returns-in-Failed-clause-says : goal.returns-in-Failed-clause-says
returns-in-Failed-clause-says g c =
    let e = c.in-Failed.ensures in
    read_failed c.args.conn c.args.spec.now c.args.run _ _ _ _ _ c.requires.feed e.1 e.2 e.3

pub returns-in-Ok-false-clause-says : goal.returns-in-Ok-false-clause-says
returns-in-Ok-false-clause-says g c =
    let e = c.in-Bytes.ensures in
    piece_gone c.args.conn c.args.spec.now c.args.run _ _ _ _ _ _ _ _ _ c.requires.feed e.4
    (subst (λ b. Hears c.args.conn (Feed c.args.spec.now.owner c.args.run (take c.in-Bytes.count c.take_rest.new.into)) (Ok b) (g.T.Turns.pass c.args.turns.now)
    (g.T.Turns.pass c.feed.new.turns) (g.C.Clock.times c.args.clock.now) (g.C.Clock.times c.feed.new.clock)) c.in-Ok-false.field-0-test c.in-Ok-false.ensures)

pub returns-in-Ok-true-clause-says : goal.returns-in-Ok-true-clause-says
returns-in-Ok-true-clause-says g c =
    let e = c.in-Bytes.ensures in
    piece_fed c.args.conn c.args.spec.now c.args.run _ _ _ _ _ _ _ _ _ e.4
    (subst (λ b. Hears c.args.conn (Feed c.args.spec.now.owner c.args.run (take c.in-Bytes.count c.take_rest.new.into)) (Ok b) (g.T.Turns.pass c.args.turns.now)
    (g.T.Turns.pass c.feed.new.turns) (g.C.Clock.times c.args.clock.now) (g.C.Clock.times c.feed.new.clock)) c.in-Ok-true.field-0-test c.in-Ok-true.ensures)

pub returns-in-Err-clause-says : goal.returns-in-Err-clause-says
returns-in-Err-clause-says g c =
    let e = c.in-Bytes.ensures in
    piece_unfed c.args.conn c.args.spec.now c.args.run c.in-Err.end _ _ _ _ _ _ _ _ _ c.requires.feed e.4 c.in-Err.ensures
