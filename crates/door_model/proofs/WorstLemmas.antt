-- The worst of more endings.
use Rattle.std.proofs.Common.{◌≡◌, ◌≤◌, List, [], ◌∷◌, ◌++◌, Bool, true, false, if◌then◌else◌, refl, sym, ap, subst, ⊎_elim, arith, nat_lt}
use Rattle.std.specs.Prelude.{Contains}
use Rattle.std.proofs.lemmas.List.Elements.{All-push, All-cons, All-tail, All-weaker, All-nil, Contains-append_left, Contains-append_right, Contains-append_cases, Contains-push, Contains-push_cases}
use Rattle.std.proofs.lemmas.Bool.Decides.{nat_tests}
use Rattle.session_model.specs.declared.ending.Worst.{Worst}
use Rattle.session_model.specs.declared.ending.Worst.TheVariants as worst
use Rattle.door_model.specs.Worsts.{rank_of, worse_of, IsWorst}

pub worst_one : (w : Worst) → IsWorst w (w ∷ [])
worst_one w = (Contains-push [] w, All-push (λ y. rank_of w ≤ rank_of y) [] w (All-nil (λ y. rank_of w ≤ rank_of y)) (omega arith))

-- one more
worst_by : (b : Bool) (w x : Worst) (ws : List Worst) → nat_lt (rank_of x) (rank_of w) ≡ b → IsWorst w ws
    → IsWorst (if b then x else w) (ws ++ x ∷ [])
worst_by true w x ws less is = (
  Contains-push ws x,
  All-push (λ y. rank_of x ≤ rank_of y) ws x
      (All-weaker (λ y. rank_of w ≤ rank_of y) (λ y. rank_of x ≤ rank_of y) (λ y le. grind (arith, nat_tests, less, le)) ws is.1) (omega arith),
)
worst_by false w x ws less is = (
  Contains-append_left ws (x ∷ []) w is.0,
  All-push (λ y. rank_of w ≤ rank_of y) ws x is.1 (grind (arith, nat_tests, less)),
)

pub worst_more : (w x v : Worst) (ws : List Worst) → v ≡ worse_of w x → IsWorst w ws → IsWorst v (ws ++ x ∷ [])
worst_more w x v ws e is = subst (λ y. IsWorst y (ws ++ x ∷ [])) (sym e) (worst_by (nat_lt (rank_of x) (rank_of w)) w x ws refl is)

-- of the endings and the reason, where the endings alone were told before
worst_by_why : (b : Bool) (why w : Worst) (ws : List Worst) → nat_lt (rank_of w) (rank_of why) ≡ b → rank_of why ≤ 4 → IsWorst w (worst.Closed ∷ ws) → IsWorst (if b then w else why) (why ∷ ws)
worst_by_why true why w ws less low is = (
  ⊎_elim
      (λ (c : Contains (worst.Closed ∷ []) w). ⊎_elim (λ (z : Contains [] w). absurd (omega (arith, z.1)))
      (λ (e : worst.Closed ≡ w). absurd (let r : 4 ≡ rank_of w = ap rank_of e in grind (arith, nat_tests, less, low, r))) (Contains-push_cases [] worst.Closed w c))
      (λ (c : Contains ws w). Contains-append_right (why ∷ []) ws w c)
      (Contains-append_cases (worst.Closed ∷ []) ws w is.0),
  All-cons (λ y. rank_of w ≤ rank_of y) why ws (grind (arith, nat_tests, less)) (All-tail (λ y. rank_of w ≤ rank_of y) worst.Closed ws is.1),
)
worst_by_why false why w ws less low is = (
  Contains-append_left (why ∷ []) ws why (Contains-push [] why),
  All-cons (λ y. rank_of why ≤ rank_of y) why ws (omega arith)
      (All-weaker (λ y. rank_of w ≤ rank_of y) (λ y. rank_of why ≤ rank_of y) (λ y le. grind (arith, nat_tests, less, le)) ws (All-tail (λ y. rank_of w ≤ rank_of y) worst.Closed ws is.1)),
)

rank_low : (w : Worst) → rank_of w ≤ 4
rank_low worst.NoMemory = omega arith
rank_low worst.Fault = omega arith
rank_low worst.Stopped = omega arith
rank_low worst.Refused = omega arith
rank_low worst.Closed = omega arith

pub worst_for : (why w : Worst) (ws : List Worst) → IsWorst w (worst.Closed ∷ ws) → IsWorst (worse_of why w) (why ∷ ws)
worst_for why w ws is = worst_by_why (nat_lt (rank_of w) (rank_of why)) why w ws refl (rank_low why) is
