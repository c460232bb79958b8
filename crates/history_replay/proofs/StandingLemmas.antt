-- Where a machine stands behind steps, and behind more.
use Rattle.std.proofs.Common.{◌≡◌, ◌+◌, ◌++◌, ℕ, zero, suc, List, [], ◌∷◌, refl, sym, ap, ◌∙◌, arith, append_assoc, Option, Some, None}
use Rattle.std.specs.Option.{option_map}
use Rattle.std.proofs.lemmas.List.{append-nil}
use Rattle.engine_text.specs.declared.step.Step.{Step}
use Rattle.machine_model.specs.State.{State}
use Rattle.machine_model.specs.History.{state_from}
use Rattle.machine_model.proofs.Histories.{state_append}
use Rattle.journal_lines.specs.Stored.{due_steps}
use Rattle.history_replay.specs.Standing.{KeptHistory, Standing, with_steps, behind}

abbrev at : State → Option KeptHistory → Standing
at s k = record { state = s; kept = k }

kept_none : (k : Option KeptHistory) → option_map (with_steps []) k ≡ k
kept_none None = refl
kept_none (Some h) = ap (λ (xs : List Step). Some (record h { steps = xs })) (append-nil h.steps)

kept_append : (k : Option KeptHistory) (a b : List Step) → option_map (with_steps b) (option_map (with_steps a) k) ≡ option_map (with_steps (a ++ b)) k
kept_append None a b = refl
kept_append (Some h) a b = ap (λ (xs : List Step). Some (record h { steps = xs })) (append_assoc h.steps a b)

pub behind_none : (s : Standing) → behind s [] ≡ s
behind_none s = ap (at s.state) (kept_none s.kept)

pub behind_append : (s : Standing) (a b : List Step) → behind (behind s a) b ≡ behind s (a ++ b)
behind_append s a b =
    ap (at (state_from (state_from s.state a) b)) (kept_append s.kept a b)
    ∙ ap (λ (y : State). at y (option_map (with_steps (a ++ b)) s.kept)) (sym (state_append s.state a b))

-- ---- due steps

due_last : (n : ℕ) → due_steps n ++ Step.Due ∷ [] ≡ due_steps (suc n)
due_last zero = refl
due_last (suc n) = ap (λ xs. Step.Due ∷ xs) (due_last n)

-- one more, at the end
pub behind_more : (s now next : Standing) (n : ℕ) → now ≡ behind s (due_steps n) → next ≡ behind now (Step.Due ∷ [])
    → next ≡ behind s (due_steps (n + 1))
behind_more s now next n is made =
    let one : suc n ≡ n + 1 = omega arith in
    made ∙ ap (λ (y : Standing). behind y (Step.Due ∷ [])) is ∙ behind_append s (due_steps n) (Step.Due ∷ [])
    ∙ ap (behind s) (due_last n ∙ ap due_steps one)
