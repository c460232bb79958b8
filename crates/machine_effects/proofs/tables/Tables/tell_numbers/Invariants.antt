use Rattle.std.proofs.Common.{◌≡◌, ◌++◌, take}
use Rattle.std.specs.List.{flat_map}
use Rattle.machine_model.specs.Step.{at_moment}
use Rattle.machine_events.specs.Foretold.{told_number}
use Rattle.machine_effects.proofs.tables.Tables.tell_numbers.Given as goal

abbrev pub invariant-loop-n : goal.invariant-loop-n
invariant-loop-n l = l.out.items ≡ l.initial.out.items ++ flat_map (told_number (at_moment l.moment l.self.state)) (take l.n-index l.numbers)
