use Rattle.futures.specs.Task.{Keeps}
use Rattle.polled_runs.proofs.pipe.Pipe.run.Given as goal

abbrev pub invariant-polls : goal.invariant-polls
invariant-polls g l = Keeps l.fn.cx l.cx
