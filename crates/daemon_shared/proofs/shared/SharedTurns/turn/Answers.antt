use Rattle.daemon_shared.proofs.TurnLemmas.{held, each_met, shared}
use Rattle.daemon_shared.proofs.shared.SharedTurns.turn.Goals as goal

pub turn-requires-clause-pass : goal.turn-requires-clause-pass
turn-requires-clause-pass g c = let s = c.args.self.now in held _ s.pass s.ours s.idle s.live s.between

pub turn-requires-clause-meets : goal.turn-requires-clause-meets
turn-requires-clause-meets g c = each_met c.args.conn _ c.args.self.now.pass.me.0 c.requires.number c.requires.may

pub returns : goal.returns
returns g c = shared _ _ c.turn.ensures.pass.1.0 c.args.conn c.args.handed _ c.turn.result c.args.self.now.pass.me.0 c.turn.new.pass.me.0 c.requires.number c.args.self.now.apart c.turn.ensures.turned
