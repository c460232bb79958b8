-- Calls that a poll adds to the loop's.
use Rattle.std.proofs.Common.{◌≡◌, ◌+◌, ◌<◌, ◌≤◌, ◌⊎◌, ◌||◌, ◌==◌, ℕ, List, [], ◌∷◌, ◌++◌, length, cond, Bool, true, false, refl, sym, ◌∙◌, ap, subst, arith, append-nil, append_assoc}
use Rattle.std.specs.Prelude.{Contains, IsTrue}
use Rattle.std.specs.List.{filter}
use Rattle.std.proofs.lemmas.Bool.{false≢true}
use Rattle.std.proofs.lemmas.List.Elements.{Contains-append_left, filter-append}
use Rattle.engine_text.specs.declared.call.Call.{Call}
use Rattle.engine_text.specs.declared.call.Call.TheVariants.{Drop}
use Rattle.engine_text.specs.declared.step.Step.{Step}
use Rattle.machine_model.specs.History.{Charter, Extends, HasNoCall, HasNone, bears, calls_of, input_of, is_own, own_calls}
use Rattle.session_model.specs.Exchange.{AtSome}
use Rattle.session_model.specs.Pass.{PassView, Every, is_call}
use Rattle.session_model.specs.Progress.{AddsOwn}
use Rattle.session_model.proofs.HistoryLemmas.{extends_on}
use Rattle.polled_model.specs.Polls.{AllStandAt, StandsAt}
use Rattle.door_model.specs.Connections.{IsNobodys}
use Rattle.engine_loop.specs.Running.{CallStands, CallsStand}
use Rattle.engine_loop.proofs.OtherLemmas.{AllOwn, own_first}

abbrev tail_of : List Step → List Step
tail_of [] = []
tail_of (x ∷ xs) = xs

cancel : (xs ys zs : List Step) → xs ++ ys ≡ xs ++ zs → ys ≡ zs
cancel [] ys zs e = e
cancel (x ∷ xs) ys zs e = cancel xs ys zs (ap tail_of e)

-- the calls that a pass of all numbers gained are the connection's
pub all_own : (k : ℕ) (p q : PassView) (own : List Step) → p.own_calls ≡ filter is_call p.seen → q.own_calls ≡ filter is_call q.seen
    → q.seen ≡ p.seen ++ own → AddsOwn k p q → AllOwn k own
all_own k p q own f g seen (xs, only, is) =
    let both : filter is_call p.seen ++ filter is_call own ≡ filter is_call p.seen ++ xs = sym (filter-append is_call p.seen own) ∙ ap (filter is_call) (sym seen) ∙ sym g ∙ is ∙ ap (λ h. h ++ xs) f in
    let e = cancel (filter is_call p.seen) (filter is_call own) xs both in
    subst (λ h. own_calls k h ≡ h) (sym e) only

-- ---- where they stand

module _ (ch : Charter) (from : List Step) where
  stand_later : (ms ns : List ℕ) (at : List Step) (x : Step) → CallStands ch ms from at x → CallStands ch (ms ++ ns) from at x
  stand_later ms ns at Step.Due h = tt
  stand_later ms ns at (Step.Call j t (Drop n)) h = tt
  stand_later ms ns at (Step.Call j t c) h = (h.0, Contains-append_left ms ns h.0 h.1, h.2)

  pub calls_later : (ms ns : List ℕ) (at xs : List Step) → CallsStand ch ms from at xs → CallsStand ch (ms ++ ns) from at xs
  calls_later ms ns at [] h = tt
  calls_later ms ns at (x ∷ xs) h = (stand_later ms ns at x h.0, calls_later ms ns (at ++ x ∷ []) xs h.1)

  pub calls_on : (ms : List ℕ) (at xs ys : List Step) → CallsStand ch ms from at xs → CallsStand ch ms from (at ++ xs) ys → CallsStand ch ms from at (xs ++ ys)
  calls_on ms at [] ys f g = subst (λ h. CallsStand ch ms from h ys) (append-nil at) g
  calls_on ms at (x ∷ xs) ys f g = (f.0, calls_on ms (at ++ x ∷ []) xs ys f.1 (subst (λ h. CallsStand ch ms from h ys) (sym (append_assoc at (x ∷ []) xs)) g))

  call_by : (ms : List ℕ) (k m : ℕ) (since at : List Step) (j t : ℕ) (c : Call) → Extends from since → Contains ms m → is_own k (Step.Call j t c) ≡ true
      → StandsAt ch k m since at (Step.Call j t c) → CallStands ch ms from at (Step.Call j t c)
  call_by ms k m since at j t (Drop n) before gave own h = tt
  call_by ms k m since at j t c before gave own h = let s = h own in (m, gave, (s.0, extends_on from since s.0 before s.1, s.2, s.3))

  pub calls_by : (ms : List ℕ) (k m : ℕ) (since at xs : List Step) → Extends from since → Contains ms m → AllOwn k xs → AllStandAt ch k m since at xs → CallsStand ch ms from at xs
  calls_by ms k m since at [] before gave all h = tt
  calls_by ms k m since at (Step.Due ∷ xs) before gave all h = (tt, calls_by ms k m since (at ++ Step.Due ∷ []) xs before gave all h.1)
  calls_by ms k m since at (Step.Call j t c ∷ xs) before gave all h =
      let first = own_first k (Step.Call j t c) (filter is_call xs) all in
      (call_by ms k m since at j t c before gave first.0 h.0, calls_by ms k m since (at ++ Step.Call j t c ∷ []) xs before gave first.1 h.1)

-- ---- nobody's calls

not_first : (b : Bool) (x : Step) (ys : List Step) → cond b (x ∷ ys) ys ≡ [] → (b ≡ false) × (ys ≡ [])
not_first true x ys h = absurd (let l = ap length h in omega (arith, l))
not_first false x ys h = (refl, h)

both_not : (b b' : Bool) → b ≡ false → b' ≡ false → (b || b') ≡ false
both_not true b' e f = absurd (false≢true (sym e))
both_not false b' e f = f

skips : (b : Bool) (x : Step) (xs : List Step) → b ≡ false → xs ≡ [] → cond b (x ∷ xs) xs ≡ []
skips true x xs h e = absurd (false≢true (sym h))
skips false x xs h e = e

pub none_both : (n : ℕ) (xs : List Step) → HasNoCall n xs → HasNoCall (input_of n) xs → HasNone n xs
none_both n [] e f = refl
none_both n (Step.Due ∷ xs) e f = none_both n xs e f
none_both n (Step.Call k t c ∷ xs) e f =
    let p = not_first (k == n) (Step.Call k t c) (calls_of n xs) e in
    let q = not_first (k == input_of n) (Step.Call k t c) (calls_of (input_of n) xs) f in
    skips (is_own n (Step.Call k t c)) (Step.Call k t c) (own_calls n xs) (both_not (k == n) (k == input_of n) p.0 q.0) (none_both n xs p.1 q.1)

-- the next connection made none
pub none_of_next : (first count : ℕ) (added : List Step) → first + count < 2147483646 → ((n : ℕ) → IsNobodys first count n → HasNoCall n added) → HasNone (first + count) added
none_of_next first count added few whose = none_both (first + count) added
    (whose (first + count) (λ k from less. ((λ e. omega (arith, e, less)), (λ e. omega (arith, e, few)))))
    (whose (input_of (first + count)) (λ k from less. ((λ e. omega (arith, e, less, few)), (λ e. omega (arith, e, less)))))
