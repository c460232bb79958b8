use Rattle.daemon_shared.proofs.TurnLemmas.{held, shared_look}
use Rattle.daemon_shared.proofs.shared.SharedTurns.journal_from.Goals as goal

pub turn-part-requires-clause-pass : goal.turn-part-requires-clause-pass
turn-part-requires-clause-pass g c = let s = c.args.self.now in held _ s.pass s.ours s.idle s.live s.between

pub turn-part-requires-clause-meets : goal.turn-part-requires-clause-meets
turn-part-requires-clause-meets g c = λ o h is legal others. tt

pub returns : goal.returns
returns g c = rw c.replace-so_far.ensures.value at (shared_look _ _ c.turn-part.ensures.pass.1.0 c.args.conn c.args.number c.turn-part.result _ _ c.args.self.now.pass.me.0 c.turn-part.new.pass.me.0 c.requires.number c.args.self.now.apart c.turn-part.ensures.turned)
