-- The calls of one connection are none of another's.
use Rattle.std.proofs.Common.{◌≡◌, ◌==◌, ◌+◌, ◌<◌, ◌≤◌, ◌⊎◌, ◌||◌, ℕ, suc, List, [], ◌∷◌, ◌++◌, length, cond, Bool, true, false, inl, inr, ⊎_elim, refl, sym, ◌∙◌, ap, subst, arith}
use Rattle.std.specs.List.{filter}
use Rattle.std.proofs.lemmas.Bool.{false≢true}
use Rattle.std.proofs.lemmas.Bool.Decides.{nat_tests}
use Rattle.engine_text.specs.declared.call.Call.{Call}
use Rattle.engine_text.specs.declared.step.Step.{Step}
use Rattle.machine_model.specs.History.{HasNoCall, HasNone, bears, calls_of, input_of, is_own, own_calls}
use Rattle.session_model.specs.Pass.{PassView, is_call}
use Rattle.session_model.specs.Progress.{AddsOwn}

-- all calls among these are connection k's
abbrev pub AllOwn : ℕ → List Step → Type 0
AllOwn k xs = own_calls k (filter is_call xs) ≡ filter is_call xs

abbrev tail_of : List Step → List Step
tail_of [] = []
tail_of (x ∷ xs) = xs

short_by : (b : Bool) (x : Step) (ys xs : List Step) → length ys ≤ length xs → length (cond b (x ∷ ys) ys) ≤ length xs + 1
short_by true x ys xs le = omega (arith, le)
short_by false x ys xs le = omega (arith, le)

shorter : (k : ℕ) (xs : List Step) → length (own_calls k xs) ≤ length xs
shorter k [] = omega arith
shorter k (x ∷ xs) = let s = short_by (is_own k x) x (own_calls k xs) xs (shorter k xs) in omega (arith, s)

-- the first of calls that are all its own, and those behind it
own_by : (b : Bool) (k : ℕ) (x : Step) (ys : List Step) → cond b (x ∷ own_calls k ys) (own_calls k ys) ≡ x ∷ ys → (b ≡ true) × (own_calls k ys ≡ ys)
own_by true k x ys e = (refl, ap tail_of e)
own_by false k x ys e = absurd (let l = ap length e in let s = shorter k ys in omega (arith, l, s))

pub own_first : (k : ℕ) (x : Step) (ys : List Step) → own_calls k (x ∷ ys) ≡ x ∷ ys → (is_own k x ≡ true) × (own_calls k ys ≡ ys)
own_first k x ys e = own_by (is_own k x) k x ys e

either_true : (a b : Bool) → (a || b) ≡ true → (a ≡ true) ⊎ (b ≡ true)
either_true true b e = inl refl
either_true false b e = inr e

both_false : (a b : Bool) → (a ≡ true → ⊥) → (b ≡ true → ⊥) → (a || b) ≡ false
both_false true b f g = absurd (f refl)
both_false false true f g = absurd (g refl)
both_false false false f g = refl

same_number : (a b : ℕ) → (a == b) ≡ true → a ≡ b
same_number a b e = grind (arith, nat_tests, e)

-- neither connection's number nor its input's is the other's
not_both : (j k n : ℕ) → (j ≡ k → ⊥) → j < 2147483646 → k < 2147483646 → ((n == k) || (n == input_of k)) ≡ true → ((n == j) || (n == input_of j)) ≡ false
not_both j k n other few few' mine = both_false (n == j) (n == input_of j)
    (λ e. let n_is = same_number n j e in
    ⊎_elim (λ f. let is = same_number n k f in other (sym n_is ∙ is)) (λ f. let is = same_number n (input_of k) f in absurd (omega (arith, n_is, is, few))) (either_true (n == k) (n == input_of k) mine))
    (λ e. let n_is = same_number n (input_of j) e in
    ⊎_elim (λ f. let is = same_number n k f in absurd (omega (arith, n_is, is, few'))) (λ f. let is = same_number n (input_of k) f in other (omega (arith, n_is, is)))
    (either_true (n == k) (n == input_of k) mine))

none_cons : (j n t : ℕ) (c : Call) (xs : List Step) → is_own j (Step.Call n t c) ≡ false → HasNone j xs → HasNone j (Step.Call n t c ∷ xs)
none_cons j n t c xs other none = rw other none

pub none_other : (j k : ℕ) (xs : List Step) → (j ≡ k → ⊥) → j < 2147483646 → k < 2147483646 → AllOwn k xs → HasNone j xs
none_other j k [] other few few' all = refl
none_other j k (Step.Due ∷ xs) other few few' all = none_other j k xs other few few' all
none_other j k (Step.Call n t c ∷ xs) other few few' all =
    let first = own_first k (Step.Call n t c) (filter is_call xs) all in
    none_cons j n t c xs (not_both j k n other few few' first.0) (none_other j k xs other few few' first.1)

-- a number that is neither the connection's nor its input's bears none of them
uncalled_cons : (m n t : ℕ) (c : Call) (xs : List Step) → (n == m) ≡ false → HasNoCall m xs → HasNoCall m (Step.Call n t c ∷ xs)
uncalled_cons m n t c xs other none = rw other none

no_number : (m n k : ℕ) → (m ≡ k → ⊥) → (m ≡ input_of k → ⊥) → ((n == k) || (n == input_of k)) ≡ true → (b : Bool) → (n == m) ≡ b → b ≡ false
no_number m n k f g mine true e = let is = same_number n m e in
    ⊎_elim (λ h. absurd (f (sym is ∙ same_number n k h))) (λ h. absurd (g (sym is ∙ same_number n (input_of k) h))) (either_true (n == k) (n == input_of k) mine)
no_number m n k f g mine false e = refl

pub uncalled_other : (m k : ℕ) (xs : List Step) → (m ≡ k → ⊥) → (m ≡ input_of k → ⊥) → AllOwn k xs → HasNoCall m xs
uncalled_other m k [] f g all = refl
uncalled_other m k (Step.Due ∷ xs) f g all = uncalled_other m k xs f g all
uncalled_other m k (Step.Call n t c ∷ xs) f g all =
    let first = own_first k (Step.Call n t c) (filter is_call xs) all in
    uncalled_cons m n t c xs (no_number m n k f g first.0 (n == m) refl) (uncalled_other m k xs f g first.1)
