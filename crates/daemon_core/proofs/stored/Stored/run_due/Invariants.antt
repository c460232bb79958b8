use Rattle.std.proofs.Common.{◌-◌, ◌^◌}
use Rattle.daemon_core.specs.Keeping.{history_of}
use Rattle.daemon_core.specs.Storing.{AddsDues}
use Rattle.daemon_core.specs.Telling.{HasEnds, KeepsTold}
use Rattle.daemon_core.proofs.stored.Stored.run_due.Given as goal

abbrev pub invariant-due : goal.invariant-due
invariant-due l = record {
  made : AddsDues l.moment l.fn.self.machine.memory.state l.self.machine.memory.state (history_of l.fn.self.journal) (history_of l.self.journal);
  ends : HasEnds l.self;
  told : KeepsTold l.fn.self l.self;
}

abbrev pub decreases-due : goal.decreases-due
decreases-due l = 2 ^ 56 - l.self.machine.memory.state.step_count
