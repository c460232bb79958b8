-- own: what a stop or a restart does once its container is found.
use Rattle.std.specs.Prelude.{ℕ, ℤ}
use Rattle.engine_text.specs.declared.event.Action.TheVariants as Action
use Rattle.machine_model.specs.State.{State}
use Rattle.machine_model.specs.Chain.{Effect, and_then, change, tell_of}
use Rattle.machine_model.specs.Effects.Cancel.{cancel_restart}
use Rattle.machine_model.specs.EventTexts.{plain_event}
use Rattle.machine_model.specs.Tickets.{begun}
use Rattle.machine_events.specs.Halts.{asked_of, halted}
use Rattle.machine_events.specs.declared.halting.Halting.{Halting}

-- Of a container that lives: a ticket of the connection, and the run is to end.
abbrev pub halt_effect : ℕ → ℕ → Halting → ℤ → ℕ → State → Effect
halt_effect connection n halting seconds signal =
    and_then (change (begun connection n (asked_of halting))) (halted halting seconds signal n)

-- A stop of one that waits for its restart: the restart is given up, and event stop.
abbrev pub stop_restarting_effect : ℕ → State → Effect
stop_restarting_effect n = and_then (cancel_restart n) (tell_of (plain_event Action.Stop) n)
