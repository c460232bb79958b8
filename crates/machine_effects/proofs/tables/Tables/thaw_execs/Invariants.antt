use Rattle.std.proofs.Common.{◌≡◌, take}
use Rattle.machine_model.specs.Chain.{each}
use Rattle.machine_events.specs.Fit.{thaw_number, AreTimely}
use Rattle.machine_effects.proofs.tables.Tables.thaw_execs.Given as goal

abbrev pub invariant-loop-i : goal.invariant-loop-i
invariant-loop-i l = record {
  state : l.self.state ≡ (each thaw_number (take l.i l.initial.self.scratch) l.initial.self.state).state;
  room : l.self.room ≡ l.initial.self.room;
  spare : l.self.spare ≡ l.initial.self.spare;
  timely : AreTimely l.self.state;
  scratch : l.self.scratch ≡ l.initial.self.scratch;
}
