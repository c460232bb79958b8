use Rattle.std.proofs.Common.{◌≡◌, take}
use Rattle.machine_model.specs.Chain.{each}
use Rattle.machine_events.specs.Fit.{freeze_number}
use Rattle.machine_effects.proofs.tables.Tables.freeze_execs.Given as goal

abbrev pub invariant-loop-i : goal.invariant-loop-i
invariant-loop-i l = record {
  state : l.self.state ≡ (each freeze_number (take l.i l.initial.self.scratch) l.initial.self.state).state;
  room : l.self.room ≡ l.initial.self.room;
  spare : l.self.spare ≡ l.initial.self.spare;
  scratch : l.self.scratch ≡ l.initial.self.scratch;
}
