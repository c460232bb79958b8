use Rattle.attach_hub.proofs.AwaitLemmas.{drop_may, drops, drops_never}
use Rattle.attach_hub.proofs.tickets.drop_ticket.Goals as goal

pub turn-requires-clause-may : goal.turn-requires-clause-may
turn-requires-clause-may g c = drop_may c.args.ticket _ _ c.conn.view_is c.requires.begun

pub returns : goal.returns
returns g c = drops c.args.ticket _ _ _ _ c.conn.view_is c.requires.numbers c.in-Replied.ensures

pub unreachable-requires : goal.unreachable-requires
unreachable-requires g c = drops_never c.args.ticket c.turn.result _ _ _ c.turn.ensures c.in-Begun.is
