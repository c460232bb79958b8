-- own: what an attach does once its container is found.
use Rattle.std.specs.Prelude.{ℕ}
use Rattle.engine_text.specs.declared.event.Action.TheVariants.{Attach}
use Rattle.machine_model.specs.Chain.{Effect, tell_of}
use Rattle.machine_model.specs.EventTexts.{plain_event}
use Rattle.machine_model.specs.State.{State}

-- Event attach, and nothing else.
abbrev pub attach_effect : ℕ → State → Effect
attach_effect = tell_of (plain_event Attach)
