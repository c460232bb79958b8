-- own: what a removal does once its container is found.
use Rattle.std.specs.Prelude.{ℕ}
use Rattle.engine_text.specs.declared.ticket.Asked.TheVariants as Asked
use Rattle.machine_model.specs.State.{State}
use Rattle.machine_model.specs.Chain.{Effect, and_then, change}
use Rattle.machine_model.specs.Calls.Remove.{kill_to_remove}
use Rattle.machine_model.specs.Effects.Cancel.{cancel_restart}
use Rattle.machine_model.specs.Effects.Destroy.{destroy}
use Rattle.machine_model.specs.Tickets.{begun}

-- Of a container that waits for its restart: the restart is given up, and the container is gone.
abbrev pub give_up_effect : ℕ → State → Effect
give_up_effect n = and_then (cancel_restart n) (destroy n)

-- Of one that lives: a ticket of the connection, and the container is to be removed.
abbrev pub force_effect : ℕ → ℕ → State → Effect
force_effect connection n = and_then (change (begun connection n Asked.Remove)) (kill_to_remove n)
