-- What a destroy tells.
use Rattle.std.proofs.Common.{◌≡◌, ℕ, ◌==◌, List, [], ◌∷◌, Option, Some, None, refl, sym, subst, not}
use Rattle.container_table.specs.Lists.{remove_first}
use Rattle.machine_model.specs.Chain.{and_then, change, tell, with_found, with_container}
use Rattle.machine_model.specs.State.{State, container_numbered}
use Rattle.machine_model.specs.EventTexts.{plain_event}
use Rattle.machine_model.specs.Effects.Destroy.{without, destroy}
use Rattle.machine_model.specs.Summary.{fold_on}
use Rattle.machine_model.proofs.Fold.RowLemmas.{RowsBut, found_number, nobody, gone}
use Rattle.machine_model.proofs.Fold.TellLemmas.{Fit, LifeInRange, HasByte, Tells}
use Rattle.machine_model.proofs.ChangeLemmas.{all_removed, distinct_removed, all_filtered}
use Rattle.engine_text.specs.declared.container.Container.{Container}
use Rattle.engine_text.specs.declared.event.FoldRow.{FoldRow}
use Rattle.engine_text.specs.declared.event.Action.TheVariants.{Destroy}

-- ---- one item less

-- ---- the destroy

fit_without : (c : Container) (s : State) → Fit s → Fit (without c s)
fit_without c s fit = (
  distinct_removed (λ (d : Container). d.id) (λ d. d.number == c.number) s.containers fit.0,
  distinct_removed (λ (d : Container). d.number) (λ d. d.number == c.number) s.containers fit.1,
  fit.2,
  fit.3,
  all_removed LifeInRange (λ d. d.number == c.number) s.containers fit.4,
  all_filtered HasByte (λ x. not (x.container == c.number)) s.execs fit.5,
)

both : (n : ℕ) (P Q : FoldRow → Container → Type 0) (s : State) (rows : List FoldRow) (o : Option Container) → container_numbered n s ≡ o → Fit s → RowsBut n P rows s.containers
    → Fit (and_then (with_found o (λ c s. tell (plain_event Destroy c s.clock ∷ []) s)) (with_found o (λ c. change (without c))) s).state
    × RowsBut n Q (fold_on rows (and_then (with_found o (λ c s. tell (plain_event Destroy c s.clock ∷ []) s)) (with_found o (λ c. change (without c))) s).events)
    (and_then (with_found o (λ c s. tell (plain_event Destroy c s.clock ∷ []) s)) (with_found o (λ c. change (without c))) s).state.containers
both n P Q s rows None e fit beside = (fit, nobody n P Q rows s.containers e beside)
both n P Q s rows (Some c) e fit beside = (
  fit_without c s fit,
  subst (λ m. RowsBut n Q (fold_on rows (plain_event Destroy c s.clock ∷ [])) (remove_first (λ d. d.number == m) s.containers)) (sym (found_number n c s.containers e))
      (gone n c P Q rows s.containers fit.0 fit.1 e beside),
)

-- the same whatever was found: the event changes nothing of the state
apart : (n : ℕ) (P Q : FoldRow → Container → Type 0) (s : State) (rows : List FoldRow) (o : Option Container) → container_numbered n s ≡ o → Fit s → RowsBut n P rows s.containers
    → Fit (and_then (with_found o (λ c s. tell (plain_event Destroy c s.clock ∷ []) s)) (with_container n (λ c. change (without c))) s).state
    × RowsBut n Q (fold_on rows (and_then (with_found o (λ c s. tell (plain_event Destroy c s.clock ∷ []) s)) (with_container n (λ c. change (without c))) s).events)
    (and_then (with_found o (λ c s. tell (plain_event Destroy c s.clock ∷ []) s)) (with_container n (λ c. change (without c))) s).state.containers
apart n P Q s rows None e fit beside =
    subst (λ o. Fit (and_then (with_found None (λ c s. tell (plain_event Destroy c s.clock ∷ []) s)) (with_found o (λ c. change (without c))) s).state
    × RowsBut n Q (fold_on rows (and_then (with_found None (λ c s. tell (plain_event Destroy c s.clock ∷ []) s)) (with_found o (λ c. change (without c))) s).events)
    (and_then (with_found None (λ c s. tell (plain_event Destroy c s.clock ∷ []) s)) (with_found o (λ c. change (without c))) s).state.containers)
    (sym e) (both n P Q s rows None e fit beside)
apart n P Q s rows (Some c) e fit beside =
    subst (λ o. Fit (and_then (with_found (Some c) (λ c s. tell (plain_event Destroy c s.clock ∷ []) s)) (with_found o (λ c. change (without c))) s).state
    × RowsBut n Q (fold_on rows (and_then (with_found (Some c) (λ c s. tell (plain_event Destroy c s.clock ∷ []) s)) (with_found o (λ c. change (without c))) s).events)
    (and_then (with_found (Some c) (λ c s. tell (plain_event Destroy c s.clock ∷ []) s)) (with_found o (λ c. change (without c))) s).state.containers)
    (sym e) (both n P Q s rows (Some c) e fit beside)

-- whatever its row was
pub tells_destroy : (n : ℕ) (P Q : FoldRow → Container → Type 0) → Tells n P (destroy n) Q
tells_destroy n P Q = record { holds = λ s rows fit beside. apart n P Q s rows (container_numbered n s) refl fit beside }
