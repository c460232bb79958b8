use Rattle.std.proofs.Common.{◌≡◌, ◌-◌, ◌^◌}
use Rattle.std.specs.Prelude.{Decides}
use Rattle.journal_lines.specs.Due.{IsMomentFor}
use Rattle.journal_lines.specs.Stored.{due_steps}
use Rattle.history_replay.specs.Counting.{HasRun}
use Rattle.history_replay.specs.Standing.{behind}
use Rattle.history_replay.proofs.dues.run_dues.Given as goal

abbrev pub invariant-dues : goal.invariant-dues
invariant-dues g l = record {
  run : HasRun (g.M.Replays.standing l.fn.machine).state l.entry (g.M.Replays.standing l.machine).state l.count l.least;
  stands : g.M.Replays.standing l.machine ≡ behind (g.M.Replays.standing l.fn.machine) (due_steps l.count);
  timed : Decides l.serves (IsMomentFor (g.M.Replays.standing l.machine).state l.entry.moment l.entry.call);
}

abbrev pub decreases-dues : goal.decreases-dues
decreases-dues g l = 2 ^ 56 - (g.M.Replays.standing l.machine).state.step_count
