-- The calls that a pass gains.
use Rattle.std.proofs.Common.{◌≡◌, ℕ, List, [], ◌∷◌, ◌++◌, cond, refl, sym, ◌∙◌, ap, append_assoc, append-nil, Bool, true, false, ◌||◌}
use Rattle.std.proofs.lemmas.Bool.{false≢true}
use Rattle.std.proofs.lemmas.List.Elements.{filter-append}
use Rattle.engine_text.specs.declared.step.Step.{Step}
use Rattle.machine_model.specs.History.{bears, calls_of, input_of, is_own, own_calls}
use Rattle.session_model.specs.Pass.{PassView}
use Rattle.session_model.specs.Progress.{AddsCalls, AddsOwn}
use Rattle.session_model.specs.Turning.{Turns}

once_more : (b : Bool) (n : ℕ) (x : Step) (xs : List Step) → bears n x ≡ b → calls_of n xs ≡ xs → calls_of n (cond b (x ∷ xs) xs) ≡ cond b (x ∷ xs) xs
once_more true n x xs is same = rw is (ap (λ l. x ∷ l) same)
once_more false n x xs is same = same

pub calls_twice : (n : ℕ) (xs : List Step) → calls_of n (calls_of n xs) ≡ calls_of n xs
calls_twice n [] = refl
calls_twice n (x ∷ xs) = once_more (bears n x) n x (calls_of n xs) refl (calls_twice n xs)

pub adds_none : (n : ℕ) (p : PassView) → AddsCalls n p p
adds_none n p = ([], refl, sym (append-nil p.own_calls))

pub adds_on : (n : ℕ) (p q r : PassView) → AddsCalls n p q → AddsCalls n q r → AddsCalls n p r
adds_on n p q r (xs, only, is) (ys, only', is') = (
  xs ++ ys,
  filter-append (bears n) xs ys ∙ ap (λ x. x ++ calls_of n ys) only ∙ ap (λ y. xs ++ y) only',
  is' ∙ ap (λ x. x ++ ys) is ∙ append_assoc p.own_calls xs ys,
)

pub turn_adds : (n : ℕ) (p q : PassView) → Turns n p q → AddsCalls n p q
turn_adds n p q t = (calls_of n t.own, calls_twice n t.own, t.own_calls)

-- ---- a connection and its input

own_once : (b : Bool) (k n : ℕ) (x : Step) (xs : List Step) → bears n x ≡ b → (bears n x ≡ true → is_own k x ≡ true)
    → own_calls k xs ≡ xs → own_calls k (cond b (x ∷ xs) xs) ≡ cond b (x ∷ xs) xs
own_once true k n x xs is mine same = rw (mine is) (ap (λ l. x ∷ l) same)
own_once false k n x xs is mine same = same

or_first : (a b : Bool) → a ≡ true → (a || b) ≡ true
or_first true b is = refl
or_first false b is = absurd (false≢true is)

or_second : (a b : Bool) → b ≡ true → (a || b) ≡ true
or_second true b is = refl
or_second false b is = is

bears_own : (k : ℕ) (x : Step) → bears k x ≡ true → is_own k x ≡ true
bears_own k x is = or_first (bears k x) (bears (input_of k) x) is

input_own : (k : ℕ) (x : Step) → bears (input_of k) x ≡ true → is_own k x ≡ true
input_own k x is = or_second (bears k x) (bears (input_of k) x) is

own_among : (k n : ℕ) (xs : List Step) → ((x : Step) → bears n x ≡ true → is_own k x ≡ true) → own_calls k (calls_of n xs) ≡ calls_of n xs
own_among k n [] mine = refl
own_among k n (x ∷ xs) mine = own_once (bears n x) k n x (calls_of n xs) refl (mine x) (own_among k n xs mine)

owns_by : (k n : ℕ) (p q : PassView) → ((x : Step) → bears n x ≡ true → is_own k x ≡ true) → AddsCalls n p q → AddsOwn k p q
owns_by k n p q mine (own, only, is) = (own, ap (own_calls k) (sym only) ∙ own_among k n own mine ∙ only, is)

pub owns : (k : ℕ) (p q : PassView) → AddsCalls k p q → AddsOwn k p q
owns k p q adds = owns_by k k p q (bears_own k) adds

pub input_owns : (k : ℕ) (p q : PassView) → AddsCalls (input_of k) p q → AddsOwn k p q
input_owns k p q adds = owns_by k (input_of k) p q (input_own k) adds

pub owns_on : (k : ℕ) (p q r : PassView) → AddsOwn k p q → AddsOwn k q r → AddsOwn k p r
owns_on k p q r (xs, only, is) (ys, only', is') = (
  xs ++ ys,
  filter-append (is_own k) xs ys ∙ ap (λ x. x ++ own_calls k ys) only ∙ ap (λ y. xs ++ y) only',
  is' ∙ ap (λ x. x ++ ys) is ∙ append_assoc p.own_calls xs ys,
)
