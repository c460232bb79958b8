-- What fits still fits behind an unpause.
use Rattle.std.proofs.Common.{◌≡◌, ℕ, Bool, true, false, List, Some, refl}
use Rattle.api_json.specs.Status.{is_paused}
use Rattle.machine_model.specs.State.{State, container_numbered}
use Rattle.machine_model.specs.Outcome.{at_reference}
use Rattle.machine_model.specs.Effects.Meet.{thaw_container}
use Rattle.machine_model.specs.Calls.Unpause as unpause
use Rattle.machine_model.proofs.Fits.PartLemmas.{leads_from, leads_to}
use Rattle.machine_model.proofs.Fits.LaunchLemmas.{on_here}
use Rattle.machine_model.proofs.Fits.MeetLemmas.{Halted, leads_thaw}
use Rattle.machine_model.proofs.Fits.CallLemmas.{PartsFit, mains_found, mains_at, fine_of, up_fine}
use Rattle.engine_text.specs.declared.container.Container.{Container}
use Rattle.engine_text.specs.declared.status.Status.{Status}

-- what the test tells
pub paused_is : (u : Status) → is_paused u ≡ true → u ≡ Status.Paused
paused_is Status.Paused e = refl
paused_is u e = absurd (cc)

unpause_by : (s : State) (c : Container) (b : Bool) → container_numbered c.number s ≡ Some c → is_paused c.life.status ≡ b → PartsFit s → PartsFit (unpause.if_paused b c s).effect.state
unpause_by s c true found is h =
    mains_found s c (thaw_container c.number) found (leads_from (λ v k. on_here Halted v (c.life, k.0, (fine_of c v k, paused_is c.life.status is))) (leads_to up_fine (leads_thaw c.number))) h
unpause_by s c false found is h = h

pub unpause_mains : (target : List ℕ) (s : State) → PartsFit s → PartsFit (at_reference target unpause.unpause_outcome s).effect.state
unpause_mains target s h = mains_at s target unpause.unpause_outcome (λ c found. unpause_by s c (is_paused c.life.status) found refl h) h
