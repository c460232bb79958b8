-- own: what a kill does once its container is found.
use Rattle.std.specs.Prelude.{ℕ, Bool}
use Rattle.engine_text.specs.declared.signal.Signal.{Signal}
use Rattle.machine_model.specs.State.{State}
use Rattle.machine_model.specs.Chain.{Effect, and_then, tell_of}
use Rattle.machine_model.specs.EventTexts.{kill_event}
use Rattle.machine_model.specs.Calls.Kill.{deliver}
use Rattle.machine_model.specs.Effects.Cancel.{cancel_restart}

-- Of a container that runs or is paused: event kill, and the signal is delivered.
abbrev pub kill_effect : ℕ → Signal → Bool → State → Effect
kill_effect n sent last = and_then (tell_of (kill_event sent.number) n) (deliver last sent.number n)

-- Of one that waits for its restart: event kill, and the restart is given up.
abbrev pub kill_restarting_effect : ℕ → Signal → State → Effect
kill_restarting_effect n sent = and_then (tell_of (kill_event sent.number) n) (cancel_restart n)
