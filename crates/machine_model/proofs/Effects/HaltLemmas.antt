-- What a halt tells.
use Rattle.std.specs.Option.{unwrap_or}
use Rattle.std.proofs.Common.{◌≡◌, ℕ, ◌<◌, ℤ, pos, negsuc, Option, refl, sym, ◌∙◌}
use Rattle.machine_model.specs.Chain.{change, renew}
use Rattle.machine_model.specs.EventTexts.{kill_event}
use Rattle.machine_model.specs.Effects.Halt.{set_deadline, halt}
use Rattle.machine_model.specs.Summary.{summary_row}
use Rattle.machine_model.specs.Ranges.{IsLifeInRange}
use Rattle.machine_model.proofs.Effects.MeetLemmas.{tells_meet}
use Rattle.machine_model.proofs.Fold.RowLemmas.{Same, made}
use Rattle.machine_model.proofs.Fold.TellLemmas.{Tells, tells_then, tells_quiet, tells_renew}
use Rattle.machine_model.proofs.Effects.LaunchLemmas.{Awake}
use Rattle.engine_text.specs.declared.container.Container.{Container}
use Rattle.engine_text.specs.declared.container.Life.{Life}
use Rattle.engine_text.specs.declared.event.FoldRow.{FoldRow}
use Rattle.engine_text.specs.declared.signal.Signal.{Signal}

-- a change that the summary doesn't see
pub same_mark : {n : ℕ} (f : Life → Life) → ((l : Life) → IsLifeInRange l → IsLifeInRange (f l))
    → ((c : Container) → summary_row (made (λ name. name) f c) ≡ summary_row c) → Tells n Same (renew n f) Same
same_mark f keeps same = tells_renew (λ s. f) (λ s l. keeps l) (λ s fit r c id h. h ∙ sym (same c))

tells_deadline : {n : ℕ} {P : FoldRow → Container → Type 0} (z : ℤ) (m : ℕ) → Tells n P (change (set_deadline z m)) P
tells_deadline (pos seconds) m = record { holds = λ s rows fit beside. (fit, beside) }
tells_deadline (negsuc k) m = record { holds = λ s rows fit beside. (fit, beside) }

-- a halt with a mark that the summary doesn't see
pub tells_halt : (mark : Life → Life) (seconds : Option ℤ) (signal : Option Signal) (c : Container) → ((l : Life) → IsLifeInRange l → IsLifeInRange (mark l))
    → ((d : Container) → summary_row (made (λ name. name) mark d) ≡ summary_row d) → (unwrap_or signal c.life.stop_signal).number < 128 → Tells c.number Same (halt mark seconds signal c) Awake
tells_halt mark seconds signal c keeps same low =
    tells_then (tells_quiet c.number (kill_event ((unwrap_or signal c.life.stop_signal).number)) (λ c t rs. refl))
    (tells_then (same_mark mark keeps same)
    (tells_then (tells_deadline (unwrap_or seconds c.life.stop_after) c.number) (tells_meet ((unwrap_or signal c.life.stop_signal).number) c.number low)))
