use Rattle.std.proofs.Common.{arith}
use Rattle.changing_calls.proofs.create.prepare.Goals as goal

pub chosen_name-requires : goal.chosen_name-requires
chosen_name-requires c = omega (arith, c.requires.numbers.next_number, c.requires.counts.steps)
