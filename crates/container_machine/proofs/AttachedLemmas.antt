-- An attach tells its event, and changes nothing.
use Rattle.std.proofs.Common.{◌≡◌, ℕ, [], ◌∷◌, Option, Some, None, refl, sym}
use Rattle.engine_text.specs.declared.container.Container.{Container}
use Rattle.engine_text.specs.declared.event.Action.{Action}
use Rattle.machine_model.specs.Chain.{tell, with_found}
use Rattle.machine_model.specs.EventTexts.{plain_event}
use Rattle.machine_model.specs.State.{State, container_numbered}
use Rattle.machine_events.proofs.SettleLemmas.{tell_still}
use Rattle.call_plans.specs.Calls.Attach.{attach_effect}

-- it changes nothing
pub attached_state : (n : ℕ) (s : State) → s ≡ (attach_effect n s).state
attached_state n s = sym (tell_still (plain_event Action.Attach) n s)

none_found : (o : Option Container) (s : State) → [] ≡ (with_found o (λ (c : Container) (z : State). tell (plain_event Action.Attach c z.clock ∷ []) z) s).died
none_found None s = refl
none_found (Some c) s = refl

-- and ends no process
pub none_attached : (n : ℕ) (s : State) → [] ≡ (attach_effect n s).died
none_attached n s = none_found (container_numbered n s) s
