-- Each step folds, and so does each history whose states are consistent.
use Rattle.std.specs.Option.{unwrap_or}
use Rattle.std.proofs.Common.{◌≡◌, List, [], ◌∷◌, ◌++◌, Option, Some, None, map, refl, ap, ◌∙◌, subst}
use Rattle.machine_model.specs.State.{State}
use Rattle.machine_model.specs.Due.{least_due}
use Rattle.machine_model.specs.Step.{at_moment, step_of, step_effect}
use Rattle.machine_model.specs.History.{Charter, opening_state, after_step, state_from, state_after, events_from, IsLawful, AreLawful, IsLegal}
use Rattle.machine_model.specs.Summary.{fold_on, inspect_summary}
use Rattle.machine_model.specs.Consistency.{IsConsistent}
use Rattle.machine_model.specs.Laws.{FoldLaw}
use Rattle.machine_model.proofs.Histories.{state_append, legal_front}
use Rattle.machine_model.proofs.ListLemmas.{distinct_front}
use Rattle.machine_model.proofs.Fold.TellLemmas.{Fit, Folded, fold_append}
use Rattle.machine_model.proofs.DueLemmas.{least_finds, due_folds}
use Rattle.machine_model.proofs.CallLemmas.{obeys}
use Rattle.engine_text.specs.declared.event.Event.{Event}
use Rattle.engine_text.specs.declared.event.FoldRow.{FoldRow}
use Rattle.engine_text.specs.declared.step.DueAction.{DueAction}
use Rattle.engine_text.specs.declared.step.Step.{Step}
use Rattle.machine_model.specs.Chain.{still}

-- ---- one step

pub fit_of : (s : State) → IsConsistent s → Fit s
fit_of s h = (
  distinct_front (map (λ c. c.id) s.containers) (map (λ x. x.id) s.execs) h.names.ids,
  distinct_front (map (λ c. c.number) s.containers) (map (λ x. x.number) s.execs) h.names.numbers,
  h.numbers.first_pid,
  h.ranges.processes,
  h.ranges.lives,
  h.ranges.codes,
)

due_by : (s : State) (o : Option DueAction) → least_due s ≡ o → IsConsistent s → Folded s (unwrap_or (step_of o s) (still s))
due_by s None e h = (refl, (h.numbers.first_pid, h.ranges.processes, h.ranges.lives, h.ranges.codes))
due_by s (Some d) e h = due_folds s d (least_finds s d h e) (fit_of s h)

pub folded_step : (s : State) (x : Step) → IsConsistent s → IsLawful s x → Folded s (step_effect x s)
folded_step s Step.Due h lawful = due_by s (least_due s) refl h
folded_step s (Step.Call connection moment c) h lawful =
    (obeys c connection (at_moment moment s)).folds (record { fit = fit_of s h; frozen = h.processes.frozen }) lawful.0

-- ---- histories

-- each state before these steps is consistent
abbrev pub AreConsistent : State → List Step → Type 0
AreConsistent s [] = Unit {0}
AreConsistent s (x ∷ xs) = IsConsistent s × AreConsistent (after_step s x) xs

pub folded_from : (s : State) (h : List Step) → AreConsistent s h → AreLawful s h
    → fold_on (inspect_summary s) (events_from s h) ≡ inspect_summary (state_from s h)
folded_from s [] consistent lawful = refl
folded_from s (x ∷ xs) consistent lawful =
    let one : Folded s (step_effect x s) = folded_step s x consistent.0 lawful.0 in
    let more : List Event = events_from (after_step s x) xs in
    fold_append (inspect_summary s) (step_effect x s).events more
    ∙ (ap (λ (rows : List FoldRow). fold_on rows more) one.0 ∙ folded_from (after_step s x) xs consistent.1 lawful.1)

-- the states of a legal history are consistent
abbrev pub ConsistencyLaw : Type 0
ConsistencyLaw = (charter : Charter) (h : List Step) → IsLegal charter h → IsConsistent (state_after charter h)

append_more : {A : Type 0} (a : List A) (x : A) (b : List A) → a ++ x ∷ b ≡ (a ++ x ∷ []) ++ b
append_more [] x b = refl
append_more (y ∷ a) x b = ap (λ l. y ∷ l) (append_more a x b)

pub all_consistent : ConsistencyLaw → (charter : Charter) (a h : List Step) → IsLegal charter (a ++ h) → AreConsistent (state_after charter a) h
all_consistent law charter a [] legal = tt
all_consistent law charter a (x ∷ xs) legal =
    let longer : IsLegal charter ((a ++ x ∷ []) ++ xs) = subst (IsLegal charter) (append_more a x xs) legal in (
      law charter a (legal_front charter a (x ∷ xs) legal),
      subst (λ s. AreConsistent s xs) (state_append (opening_state charter) a (x ∷ [])) (all_consistent law charter (a ++ x ∷ []) xs longer),
    )

pub fold_law : ConsistencyLaw → FoldLaw
fold_law law charter h legal =
    folded_from (opening_state charter) h (all_consistent law charter [] h legal) legal.1
