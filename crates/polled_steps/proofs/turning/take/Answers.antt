use Rattle.std.proofs.Common.{refl}
use Rattle.polled_steps.proofs.turning.take.Goals as goal

pub turn-requires-clause-may : goal.turn-requires-clause-may
turn-requires-clause-may g c = (refl, c.requires.begun)
