use Rattle.std.proofs.Common.{subst, sym, Some}
use Rattle.session_model.specs.Pass.{IsNumber}
use Rattle.session_model.specs.Turning.{Turn}
use Rattle.attach_hub.proofs.HearLemmas.{no_ticket}
use Rattle.attach_hub.proofs.pumping.ask_once.Goals as goal

pub turn-requires-clause-number : goal.turn-requires-clause-number
turn-requires-clause-number g c = subst (IsNumber (g.T.Turns.pass c.args.turns.now).number) (sym c.input_of.ensures) c.requires.number

pub turn-requires-clause-may : goal.turn-requires-clause-may
turn-requires-clause-may g c =
    let pass = g.T.Turns.pass c.args.turns.now in
    (c.requires.sound, no_ticket pass.charter c.input_of.result pass.seen c.args.call.now c.requires.kind)

pub returns : goal.returns
returns g c =
    subst (λ n. Turn n c.args.handed (Some c.args.call.now) c.turn.result (g.T.Turns.pass c.args.turns.now) (g.T.Turns.pass c.turn.new.self))
    c.input_of.ensures c.turn.ensures
