-- Whose calls the history of a drill has.
use Rattle.std.proofs.Common.{◌≡◌, ℕ, refl}
use Rattle.engine_ports.specs.Clock.{ClockView}
use Rattle.machine_model.specs.History.{Charter, HasNoCall, input_of}
use Rattle.session_model.specs.declared.ending.Ending.{Ending}
use Rattle.daemon_core.proofs.OwnFacts.{no_other}
use Rattle.drill_session.specs.Running.{Session}

-- all calls are its session's
pub all_own : (ch : Charter) (requests : ℕ) (e : Ending) (t t' : ClockView) (s : Session ch requests e t t') (n : ℕ)
    → (n ≡ 0 → ⊥) → (n ≡ input_of 0 → ⊥) → HasNoCall n s.history
all_own ch requests e t t' s n other no_input = no_other 0 n other no_input ch s.history (s.serves.goes.adds refl)
