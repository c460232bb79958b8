use Rattle.std.proofs.Common.{◌≡◌, ℕ}
use Rattle.proc_kernel.specs.Processes.{Process}
use Rattle.proc_kernel.specs.Times.{IsTimely}
use Rattle.health_watch.specs.Probes.{Goes, course}
use Rattle.health_watch.specs.ProbeSteps.{alone}
use Rattle.health_watch.proofs.probes.outcome_of.Given as goal

-- the process has come so far
abbrev pub invariant-loop-op : goal.invariant-loop-op
invariant-loop-op l = (t : ℕ) × (p : Process) × (course l._op l.fn.script ≡ Goes t p) × IsTimely t p × (l.kernel.processes ≡ alone p)
