use Rattle.std.proofs.Common.{◌≡◌, ◌++◌, take}
use Rattle.std.specs.List.{flat_map}
use Rattle.machine_model.specs.Step.{at_moment}
use Rattle.machine_events.specs.ToldMeet.{thawed_code, told_thaw}
use Rattle.machine_effects.proofs.tables.Tables.tell_thaws.Given as goal

abbrev pub invariant-loop-n : goal.invariant-loop-n
invariant-loop-n l = l.out.items ≡ l.initial.out.items ++ flat_map (λ j. told_thaw (thawed_code j (at_moment l.moment l.self.state)) j (at_moment l.moment l.self.state)) (take l.n-index l.numbers)
