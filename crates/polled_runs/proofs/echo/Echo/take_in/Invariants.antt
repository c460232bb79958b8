use Rattle.futures.specs.Task.{Keeps}
use Rattle.polled_runs.proofs.echo.Echo.take_in.Given as goal

abbrev pub invariant-comings : goal.invariant-comings
invariant-comings g l = Keeps l.fn.cx l.cx

abbrev pub decreases-comings : goal.decreases-comings
decreases-comings g l = l.self.to_come
