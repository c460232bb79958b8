-- own: what an update does once its container is found.
use Rattle.std.specs.Prelude.{ℕ, Option}
use Rattle.engine_text.specs.declared.event.Action.TheVariants as Action
use Rattle.engine_text.specs.declared.policy.Policy.{Policy}
use Rattle.machine_model.specs.State.{State}
use Rattle.machine_model.specs.Calls.Update.{governed}
use Rattle.machine_model.specs.Chain.{Effect, and_then, renew, tell_of}
use Rattle.machine_model.specs.EventTexts.{plain_event}

-- The container of that number has the given policy, if one is given, and event update.
abbrev pub update_effect : ℕ → Option Policy → State → Effect
update_effect n policy = and_then (renew n (governed policy)) (tell_of (plain_event Action.Update) n)
