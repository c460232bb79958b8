use Rattle.std.proofs.Common.{subst, sym}
use Rattle.engine_text.specs.Soundness.{IsSound}
use Rattle.engine_text.specs.declared.call.Call.TheVariants.{Feed}
use Rattle.attach_hub.specs.Pumping.{Hears}
use Rattle.attach_hub.proofs.HearLemmas.{heard_none}
use Rattle.attach_hub.proofs.PumpLemmas.{feed_sound}
use Rattle.attach_hub.proofs.pumping.feed.Goals as goal

pub ask-requires-clause-sound : goal.ask-requires-clause-sound
ask-requires-clause-sound g c = λ κs w.
    subst (λ x. IsSound (Feed c.args.spec.now.owner c.args.run x)) (sym c.in-Ok.ensures)
    (feed_sound c.args.spec.now.owner c.args.run c.args.piece.now c.requires.run c.requires.some c.requires.few)

pub returns-in-Ok : goal.returns-in-Ok
returns-in-Ok g c =
    subst (λ x. Hears c.args.conn (Feed c.args.spec.now.owner c.args.run x) c.ask.result (g.T.Turns.pass c.args.turns.now) (g.T.Turns.pass c.ask.new.turns)
    (g.C.Clock.times c.args.clock.now) (g.C.Clock.times c.ask.new.clock)) c.in-Ok.ensures c.ask.ensures

pub returns-in-Err : goal.returns-in-Err
returns-in-Err g c = heard_none c.args.conn (Feed c.args.spec.now.owner c.args.run c.args.piece.now) _ _
