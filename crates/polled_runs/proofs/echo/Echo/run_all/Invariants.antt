use Rattle.std.proofs.Common.{◌≡◌, ◌-◌, true, length}
use Rattle.futures.specs.Task.{IsArmed, Keeps}
use Rattle.polled_runs.proofs.echo.Echo.run_all.Given as goal

abbrev pub invariant-pipes : goal.invariant-pipes
invariant-pipes g l = record {
  kept : Keeps l.fn.cx l.cx;
  armed : (l.waits ≡ true) → IsArmed l.cx;
}

abbrev pub decreases-pipes : goal.decreases-pipes
decreases-pipes g l = length l.self.pipes.items - l.at
