-- Of a daemon that is shared with nobody all calls are its one session's.
use Rattle.std.proofs.Common.{◌≡◌, ◌⊎◌, inl, inr, ◌==◌, ◌||◌, ℕ, List, [], ◌∷◌, cond, refl, sym, ◌∙◌, ap, Bool, true, false}
use Rattle.std.specs.List.{filter}
use Rattle.std.proofs.lemmas.Bool.{eqb-true, false≢true}
use Rattle.engine_text.specs.declared.step.Step.{Step}
use Rattle.machine_model.specs.History.{Charter, HasNoCall, bears, calls_of, input_of, is_own, own_calls}
use Rattle.session_model.specs.Pass.{is_call}
use Rattle.session_model.specs.Progress.{AddsOwn}
use Rattle.daemon_core.specs.Storing.{pass_of}

either : (a b : Bool) → (a || b) ≡ true → (a ≡ true) ⊎ (b ≡ true)
either true b is = inl refl
either false true is = inr refl
either false false is = absurd (false≢true is)

module _ (k n : ℕ) (other : n ≡ k → ⊥) (no_input : n ≡ input_of k → ⊥) where
  neither : (j : ℕ) → j ≡ n → ((j == k) ≡ true) ⊎ ((j == input_of k) ≡ true) → ⊥
  neither j is (inl own) = other (sym is ∙ eqb-true j k own)
  neither j is (inr own) = no_input (sym is ∙ eqb-true j (input_of k) own)

  differs : (j : ℕ) (y : Bool) → (j == n) ≡ y → (j == k || j == input_of k) ≡ true → y ≡ false
  differs j true at is = absurd (neither j (eqb-true j n at) (either (j == k) (j == input_of k) is))
  differs j false at is = refl

  not_its : (x : Step) → is_own k x ≡ true → bears n x ≡ false
  not_its Step.Due is = refl
  not_its (Step.Call j t c) is = differs j (j == n) refl is

  keeps_none : (b : Bool) (x : Step) (xs : List Step) → is_own k x ≡ b → calls_of n xs ≡ [] → calls_of n (cond b (x ∷ xs) xs) ≡ []
  keeps_none true x xs is none = rw (not_its x is) none
  keeps_none false x xs is none = none

  none_among : (xs : List Step) → calls_of n (own_calls k xs) ≡ []
  none_among [] = refl
  none_among (x ∷ xs) = keeps_none (is_own k x) x (own_calls k xs) refl (none_among xs)

  among_calls : (h : List Step) → calls_of n h ≡ calls_of n (filter is_call h)
  among_calls [] = refl
  among_calls (Step.Due ∷ h) = among_calls h
  among_calls (Step.Call j t c ∷ h) = ap (λ l. cond (j == n) (Step.Call j t c ∷ l) l) (among_calls h)

  -- no call of its history has another number than the connection's and its input's
  pub no_other : (ch : Charter) (h : List Step) → AddsOwn k (pass_of ch []) (pass_of ch h) → HasNoCall n h
  no_other ch h (own, only, is) = among_calls h ∙ ap (calls_of n) (is ∙ sym only) ∙ none_among own
