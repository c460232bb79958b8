use Rattle.std.proofs.Common.{refl}
use Rattle.attach_hub.proofs.WaitLemmas.{drop_never}
use Rattle.polled_steps.proofs.TurnLemmas.{drops_so}
use Rattle.polled_steps.proofs.turning.drop_ticket.Goals as goal

pub turn-requires-clause-may : goal.turn-requires-clause-may
turn-requires-clause-may g c = (refl, c.requires.begun)

pub returns : goal.returns
returns g c = drops_so c.args.conn c.args.ticket 0 _ _ _ _ c.requires.pair refl c.in-Replied.ensures

pub unreachable-requires : goal.unreachable-requires
unreachable-requires g c = drop_never c.args.conn 0 c.args.ticket c.turn.result _ _ c.turn.ensures c.in-Begun.is
