-- A number makes no call between two histories, whoever makes others.
use Rattle.std.proofs.Common.{◌≡◌, ◌+◌, ◌==◌, ℕ, List, [], ◌∷◌, ◌++◌, cond, refl, sym, ◌∙◌, ap, subst, append_assoc, arith, Bool, true, false, length, length-append}
use Rattle.std.specs.Prelude.{◌||◌}
use Rattle.std.specs.List.{filter}
use Rattle.std.proofs.lemmas.Bool.{eqb-true, false≢true}
use Rattle.std.proofs.lemmas.List.Elements.{filter-append}
use Rattle.engine_text.specs.declared.call.Call.{Call}
use Rattle.engine_text.specs.declared.step.Step.{Step}
use Rattle.machine_model.specs.History.{Extends, HasNoCall, HasNone, bears, calls_of, input_of, own_calls}
use Rattle.session_model.specs.Pass.{PassView, Every, HasItsCalls, calls_by, is_call}
use Rattle.session_model.specs.Exchange.{IsQuiet}
use Rattle.session_model.specs.Progress.{AddsCalls}
use Rattle.attach_hub.specs.Following.{IsStill}

-- ---- one number

pub no_calls : (n : ℕ) (xs ys : List Step) → HasNoCall n xs → HasNoCall n ys → HasNoCall n (xs ++ ys)
no_calls n xs ys f g = filter-append (bears n) xs ys ∙ ap (λ x. x ++ calls_of n ys) f ∙ g

empty : {A : Type 0} (xs : List A) → length xs ≡ 0 → xs ≡ []
empty [] is = refl
empty (x ∷ xs) is = absurd (omega (arith, is))

-- where as many calls stand as before, none came
pub none_came : (n : ℕ) (a more : List Step) → IsStill n a (a ++ more) → HasNoCall n more
none_came n a more still =
    let sum = ap length (sym (filter-append (bears n) a more) ∙ still) in
    let parts = length-append (calls_of n a) (calls_of n more) in
    empty (calls_of n more) (omega (arith, sum, parts))

pub still_more : (n : ℕ) (a more : List Step) → HasNoCall n more → IsStill n a (a ++ more)
still_more n a more none = filter-append (bears n) a more ∙ ap (λ x. calls_of n a ++ x) none ∙ append_none (calls_of n a)
  where
    append_none : (xs : List Step) → xs ++ [] ≡ xs
    append_none [] = refl
    append_none (x ∷ xs) = ap (λ l. x ∷ l) (append_none xs)

pub still_rest : (n : ℕ) (a b : List Step) (e : Extends a b) → IsStill n a b → HasNoCall n e.0
still_rest n a b (more, is) still = none_came n a more (subst (IsStill n a) is still)

pub rest_still : (n : ℕ) (a b : List Step) (e : Extends a b) → HasNoCall n e.0 → IsStill n a b
rest_still n a b (more, is) none = subst (IsStill n a) (sym is) (still_more n a more none)

pub none_parts : (n : ℕ) (xs ys : List Step) → HasNoCall n (xs ++ ys) → HasNoCall n xs × HasNoCall n ys
none_parts n xs ys none =
    let sum = ap length (sym (filter-append (bears n) xs ys) ∙ none) in
    let parts = length-append (calls_of n xs) (calls_of n ys) in
    (empty (calls_of n xs) (omega (arith, sum, parts)), empty (calls_of n ys) (omega (arith, sum, parts)))

-- who makes none in all makes none in each part
pub still_between : (n : ℕ) (a b c : List Step) → Extends a b → Extends b c → IsStill n a c → IsStill n a b × IsStill n b c
still_between n a b c (xs, is) (ys, is') still =
    let at : c ≡ a ++ (xs ++ ys) = is' ∙ ap (λ x. x ++ ys) is ∙ append_assoc a xs ys in
    let none = none_parts n xs ys (none_came n a (xs ++ ys) (subst (IsStill n a) at still)) in
    (rest_still n a b (xs, is) none.0, rest_still n b c (ys, is') none.1)

-- ---- a connection and its input

own_none : (x y : Bool) (s : Step) (xs ys zs : List Step) → cond x (s ∷ xs) xs ≡ [] → cond y (s ∷ ys) ys ≡ []
    → (xs ≡ [] → ys ≡ [] → zs ≡ []) → cond (x || y) (s ∷ zs) zs ≡ []
own_none true y s xs ys zs f g more = absurd (cc)
own_none false true s xs ys zs f g more = absurd (cc)
own_none false false s xs ys zs f g more = more f g

pub none_of_both : (k : ℕ) (xs : List Step) → HasNoCall k xs → HasNoCall (input_of k) xs → HasNone k xs
none_of_both k [] f g = refl
none_of_both k (Step.Due ∷ xs) f g = none_of_both k xs f g
none_of_both k (Step.Call j t c ∷ xs) f g =
    own_none (j == k) (j == input_of k) (Step.Call j t c) (calls_of k xs) (calls_of (input_of k) xs) (own_calls k xs) f g (none_of_both k xs)

both_none : (x y : Bool) (s : Step) (zs : List Step) → cond (x || y) (s ∷ zs) zs ≡ [] → (x ≡ false) × (y ≡ false) × (zs ≡ [])
both_none true y s zs h = absurd (cc)
both_none false true s zs h = absurd (cc)
both_none false false s zs h = (refl, refl, h)

pub input_none : (k : ℕ) (xs : List Step) → HasNone k xs → HasNoCall (input_of k) xs
input_none k [] h = refl
input_none k (Step.Due ∷ xs) h = input_none k xs h
input_none k (Step.Call j t c ∷ xs) h =
    let p = both_none (j == k) (j == input_of k) (Step.Call j t c) (own_calls k xs) h in rw p.1 (input_none k xs p.2)

-- neither makes a call
pub quiet_both : (k : ℕ) (a b : List Step) → Extends a b → IsStill k a b → IsStill (input_of k) a b → IsQuiet k a b
quiet_both k a b e f g = (e.0, none_of_both k e.0 (still_rest k a b e f) (still_rest (input_of k) a b e g), e.1)

-- ---- of who takes all turns

-- calls of a number are among all calls
among_calls : (k : ℕ) (h : List Step) → calls_of k h ≡ calls_of k (filter is_call h)
among_calls k [] = refl
among_calls k (Step.Due ∷ h) = among_calls k h
among_calls k (Step.Call j t c ∷ h) = ap (λ l. cond (j == k) (Step.Call j t c ∷ l) l) (among_calls k h)

others_none : (x y : Bool) (s : Step) (k : ℕ) (xs : List Step) → (x ≡ true → y ≡ false) → bears k s ≡ y → calls_of k xs ≡ [] → calls_of k (cond x (s ∷ xs) xs) ≡ []
others_none true true s k xs f is none = absurd (false≢true (sym (f refl)))
others_none true false s k xs f is none = rw is none
others_none false y s k xs f is none = none

-- no call of one number is another's
of_another : (k n : ℕ) (xs : List Step) → (k ≡ n → ⊥) → calls_of k (calls_of n xs) ≡ []
of_another k n [] other = refl
of_another k n (Step.Due ∷ xs) other = of_another k n xs other
of_another k n (Step.Call j t c ∷ xs) other =
    others_none (j == n) (j == k) (Step.Call j t c) k (calls_of n xs) (λ is. differs (j == k) refl is) refl (of_another k n xs other)
  where
    differs : (y : Bool) → (j == k) ≡ y → (j == n) ≡ true → y ≡ false
    differs true at is = absurd (other (sym (eqb-true j k at) ∙ eqb-true j n is))
    differs false at is = refl

-- who takes all turns, and makes calls of one number alone, makes none of another
pub still_alone : (k n : ℕ) (p q : PassView) → (k ≡ n → ⊥) → p.number ≡ Every → q.number ≡ Every → HasItsCalls p → HasItsCalls q → AddsCalls n p q
    → IsStill k p.seen q.seen
still_alone k n p q other every every' mine its (own, only, adds) =
    let before : p.own_calls ≡ filter is_call p.seen = subst (λ x. p.own_calls ≡ calls_by x p.seen) every mine.own in
    let after : q.own_calls ≡ filter is_call q.seen = subst (λ x. q.own_calls ≡ calls_by x q.seen) every' its.own in
    let none : calls_of k own ≡ [] = ap (calls_of k) (sym only) ∙ of_another k n own other in
    among_calls k q.seen ∙ ap (calls_of k) (sym after) ∙ ap (calls_of k) adds ∙ still_more k p.own_calls own none
    ∙ ap (calls_of k) before ∙ sym (among_calls k p.seen)
