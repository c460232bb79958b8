use Rattle.attach_hub.proofs.AwaitLemmas.{take_may}
use Rattle.attach_hub.proofs.tickets.take.Goals as goal

pub turn-requires-clause-may : goal.turn-requires-clause-may
turn-requires-clause-may g c κs within = take_may c.args.ticket c.args.conn.now c.requires.begun
