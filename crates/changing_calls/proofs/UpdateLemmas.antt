-- An update that is made ready is the update's outcome.
use Rattle.std.proofs.Common.{◌≡◌, ℕ, [], ◌∷◌, Option, Some, sym}
use Rattle.engine_text.specs.declared.container.Container.{Container}
use Rattle.engine_text.specs.declared.event.Action.{Action}
use Rattle.engine_text.specs.declared.policy.Policy.{Policy}
use Rattle.machine_model.specs.Calls.Update.{governed, update}
use Rattle.machine_model.specs.EventTexts.{plain_event}
use Rattle.machine_model.specs.State.{State, container_numbered, change_life}
use Rattle.machine_events.specs.ChangedLives.{renewed}
use Rattle.machine_events.proofs.DiedToldLemmas.{none_told}
use Rattle.machine_events.proofs.SettleLemmas.{tell_still}
use Rattle.machine_events.proofs.ToldLemmas.{found_renewed, told_at}
use Rattle.call_plans.specs.Calls.Update.{update_effect}

-- the container's policy is changed, and nothing else
pub updated_state : (n : ℕ) (policy : Option Policy) (s : State) → change_life n (governed policy) s ≡ (update_effect n policy s).state
updated_state n policy s = sym (tell_still (plain_event Action.Update) n (change_life n (governed policy) s))

pub none_updated : (n : ℕ) (policy : Option Policy) (s : State) → [] ≡ (update_effect n policy s).died
none_updated n policy s = sym (none_told (plain_event Action.Update) n (change_life n (governed policy) s))

pub update_told : (policy : Option Policy) (s : State) (c : Container) → container_numbered c.number s ≡ Some c → (update policy c s).events ≡ plain_event Action.Update c s.clock ∷ []
update_told policy s c e =
    told_at (plain_event Action.Update) c.number (change_life c.number (governed policy) s) (renewed (governed policy) c) (found_renewed c.number (governed policy) s c e)
