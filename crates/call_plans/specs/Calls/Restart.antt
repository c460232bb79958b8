-- own: what a restart does once its container is found.
use Rattle.std.specs.Prelude.{ℕ}
use Rattle.machine_model.specs.State.{State}
use Rattle.machine_model.specs.Chain.{Effect, and_then}
use Rattle.machine_model.specs.Calls.Restart.{launch_again}
use Rattle.machine_model.specs.Effects.Cancel.{cancel_restart}

-- Of a container that waits for its restart: that is given up, and it is launched.
abbrev pub restart_restarting_effect : ℕ → State → Effect
restart_restarting_effect n = and_then (cancel_restart n) (launch_again n)
