use Rattle.std.proofs.Common.{◌≡◌, filter, take}
use Rattle.machine_model.specs.Step.{at_moment}
use Rattle.machine_events.specs.ToldMeet.{lives_on}
use Rattle.machine_effects.proofs.tables.Tables.running_after.Given as goal

abbrev pub invariant-loop-n : goal.invariant-loop-n
invariant-loop-n l = l.after.items ≡ filter (λ j. lives_on j (at_moment l.moment l.self.state)) (take l.n-index l.numbers)
