-- What is due, in order of moment, where two may be one.
use Rattle.std.proofs.Common.{◌≡◌, ℕ, suc, zero, ◌<◌, ◌≤◌, Bool, true, false, if◌then◌else◌, List, [], ◌∷◌, length, get_or, Option, Some, Result, Ok, Err, refl, sym, ◌∙◌, subst, ap, arith, inl, inr}
use Rattle.std.specs.Prelude.{slice_get, OnOk, OnErr, OnSome}
use Rattle.std.specs.VecDeque.{deque_len, deque_capacity}
use Rattle.std.specs.declared.collections.VecDeque.{VecDeque}
use Rattle.std.specs.declared.alloc.AllocFailed.{AllocFailed}
use Rattle.std.specs.List.{AllByRecursion, insert, remove}
use Rattle.std.specs.List.Sorted.{IsPartitionedBy, IsPartitionPoint}
use Rattle.std.proofs.lemmas.Bool.Decides.{nat_tests}
use Rattle.std.proofs.lemmas.Option.{slice_get_cases}
use Rattle.engine_text.specs.declared.step.DueAction.{DueAction}
use Rattle.container_table.specs.Lists.{placed, remove_first}
use Rattle.container_table.specs.Order.{in_order}
use Rattle.container_table.specs.Search.{Parts}
use Rattle.container_table.specs.Timers.{is_before, least}
use Rattle.container_table.specs.Dues.{is_same, is_found, with_due, without_due}
use Rattle.container_table.specs.DuesInside.{IsUnreversed}
use Rattle.container_table.proofs.PlacedLemmas.{all_imp, all_removed, all_placed, in_order_back, placed_swap, length-placed}
use Rattle.container_table.proofs.SearchLemmas.{all_at, insert_here, parts_of}
use Rattle.container_table.proofs.LeastLemmas.{IsIn, not_before_itself, same, least_is}
use Rattle.container_table.proofs.TimerLemmas.{before_order, in_order_in}
use Rattle.container_table.proofs.BoxLemmas.{remove_none}

-- ---- the order

not_before_either : (a b c : DueAction) → is_before a b ≡ false → is_before c a ≡ false → is_before c b ≡ false
not_before_either a b c e f = grind (arith, nat_tests, e, f)

before_both : (a b t : DueAction) → is_before b t ≡ true → is_before b a ≡ false → is_before a t ≡ true
before_both a b t e f = grind (arith, nat_tests, e, f)

other_before : (t d : DueAction) → is_before d t ≡ true → is_same t d ≡ false
other_before t d e = grind (arith, nat_tests, e)

same_itself : (t : DueAction) → is_same t t ≡ true
same_itself t = grind (arith, nat_tests)

other_behind : (t y z : DueAction) → is_before y t ≡ false → is_same t y ≡ false → is_before z y ≡ false → is_same t z ≡ false
other_behind t y z e f g = grind (arith, nat_tests, e, f, g)

-- ---- lists in which none comes before one ahead of it

pub unreversed_with : (t : DueAction) (ds : List DueAction) → IsUnreversed ds → IsUnreversed (with_due t ds)
unreversed_with t [] h = (tt, tt)
unreversed_with t (y ∷ ys) h = go (is_before y t) refl (unreversed_with t ys h.1)
  where
    go : (b : Bool) → is_before y t ≡ b → IsUnreversed (placed is_before t ys) → IsUnreversed (if b then y ∷ placed is_before t ys else t ∷ y ∷ ys)
    go true e more = (all_placed is_before (λ z. is_before z y ≡ false) t ys (before_order.one_way y t e) h.0, more)
    go false e more = ((e, all_imp (λ z. is_before z y ≡ false) (λ z. is_before z t ≡ false) (λ z f. not_before_either y t z e f) ys h.0), h)

pub unreversed_without : (t : DueAction) (ds : List DueAction) → IsUnreversed ds → IsUnreversed (without_due t ds)
unreversed_without t [] h = tt
unreversed_without t (y ∷ ys) h = go (is_same t y) (unreversed_without t ys h.1)
  where
    go : (b : Bool) → IsUnreversed (remove_first (is_same t) ys) → IsUnreversed (if b then ys else y ∷ remove_first (is_same t) ys)
    go true more = h.1
    go false more = (all_removed (λ z. is_before z y ≡ false) (is_same t) ys h.0, more)

unreversed_in_order : (ds : List DueAction) → IsUnreversed (in_order is_before ds)
unreversed_in_order [] = tt
unreversed_in_order (d ∷ ds) = unreversed_with d (in_order is_before ds) (unreversed_in_order ds)

-- ---- places

parted : (t : DueAction) (ds : List DueAction) → IsUnreversed ds → IsPartitionedBy (λ d. is_before d t) ds
parted t [] h i j d le less before = absurd (omega arith)
parted t (y ∷ ys) h zero zero d le less before = before
parted t (y ∷ ys) h zero (suc j) d le less before = before_both y (get_or ys j d) t before (all_at (λ z. is_before z y ≡ false) ys j d h.0 (omega arith))
parted t (y ∷ ys) h (suc i) zero d le less before = absurd (omega arith)
parted t (y ∷ ys) h (suc i) (suc j) d le less before = parted t ys h.1 i j d (omega arith) (omega arith) before

pub is_parted : (t : DueAction) (ds : List DueAction) → IsUnreversed ds → IsPartitionedBy (λ d. is_before d t) ds
is_parted t ds h = parted t ds h

pub parts_at : (t : DueAction) (ds : List DueAction) (i : ℕ) → i ≤ length ds → IsPartitionPoint (λ d. is_before d t ≡ true) (λ d. is_before d t ≡ false) ds i
    → Parts (λ d. is_before d t ≡ true) (λ d. is_before d t ≡ false) ds i
parts_at t ds i bound point = parts_of (λ d. is_before d t ≡ true) (λ d. is_before d t ≡ false) ds i bound point

-- ---- one more, and one less

pub inserted_due : (t : DueAction) (ds : List DueAction) (i : ℕ) → Parts (λ d. is_before d t ≡ true) (λ d. is_before d t ≡ false) ds i → insert ds i t ≡ with_due t ds
inserted_due t ds i parts = insert_here is_before t ds i parts

-- what an insert that had its room leaves
pub put_in : {Z : Type 0} (t : DueAction) (before after : VecDeque DueAction Z) (r : Result (Unit {0}) (AllocFailed DueAction)) (i : ℕ)
    → deque_len before < deque_capacity before
    → OnOk r (after.items ≡ insert before.items i t) → OnErr r (deque_capacity before ≤ deque_len before)
    → after.items ≡ insert before.items i t
put_in t before after (Ok u) i room ok full = ok
put_in t before after (Err e) i room ok full = absurd (omega (arith, room, full))

-- what a removal that took one out leaves
pub taken_out : (r : Option DueAction) (d : DueAction) → r ≡ Some d → (P : Type 0) → OnSome r P → P
taken_out r d e P h = subst (λ (o : Option DueAction). OnSome o P) e h

taken : (t : DueAction) (ds : List DueAction) (i : ℕ) (d : DueAction) → Parts (λ d. is_before d t ≡ true) (λ d. is_before d t ≡ false) ds i → i < length ds
    → is_same t (get_or ds i d) ≡ true → remove ds i ≡ without_due t ds
taken t [] i d parts less e = absurd (omega arith)
taken t (y ∷ ys) zero d parts less e = rw e refl
taken t (y ∷ ys) (suc i) d parts less e = rw (other_before t y parts.0) (ap (λ l. y ∷ l) (taken t ys i d parts.1 (omega arith) e))

untaken : (t : DueAction) (ds : List DueAction) (i : ℕ) (d : DueAction) → IsUnreversed ds → Parts (λ d. is_before d t ≡ true) (λ d. is_before d t ≡ false) ds i
    → (i < length ds → is_same t (get_or ds i d) ≡ false) → ds ≡ without_due t ds
untaken t [] i d h parts none = refl
untaken t (y ∷ ys) zero d h parts none =
    let other : is_same t y ≡ false = none (omega arith) in
    rw other (ap (λ l. y ∷ l) (sym (remove_none (is_same t) ys (all_imp (λ z. is_before z y ≡ false) (λ z. is_same t z ≡ false) (λ z f. other_behind t y z parts.0 other f) ys h.0))))
untaken t (y ∷ ys) (suc i) d h parts none =
    rw (other_before t y parts.0) (ap (λ l. y ∷ l) (untaken t ys i d h.1 parts.1 (λ low. none (omega (arith, low)))))

pub removed_due : (t : DueAction) (ds : List DueAction) (i : ℕ) → Parts (λ d. is_before d t ≡ true) (λ d. is_before d t ≡ false) ds i → is_found t (slice_get ds i) ≡ true
    → (i < length ds) × (remove ds i ≡ without_due t ds)
removed_due t ds i parts e = elim (slice_get_cases ds i).1 [
  | inl q ↦ let here : is_same t q.0 ≡ true = ap (is_found t) (sym q.2) ∙ e in (q.1, taken t ds i q.0 parts q.1 (ap (is_same t) q.3 ∙ here))
  | inr q ↦ let none : false ≡ true = ap (is_found t) (sym q.1) ∙ e in absurd (cc)
]

pub left_due : (t : DueAction) (ds : List DueAction) (i : ℕ) → IsUnreversed ds → Parts (λ d. is_before d t ≡ true) (λ d. is_before d t ≡ false) ds i → is_found t (slice_get ds i) ≡ false
    → ds ≡ without_due t ds
left_due t ds i h parts e = elim (slice_get_cases ds i).1 [
  | inl q ↦ untaken t ds i q.0 h parts (λ low. ap (is_same t) q.3 ∙ ap (is_found t) (sym q.2) ∙ e)
  | inr q ↦ untaken t ds i t h parts (λ low. absurd (omega (arith, low, q.0)))
]

-- what was put in and taken out leaves the list as it was
pub without_with : (t : DueAction) (ds : List DueAction) → without_due t (with_due t ds) ≡ ds
without_with t [] = rw (same_itself t) refl
without_with t (y ∷ ys) = go (is_before y t) refl (without_with t ys)
  where
    go : (b : Bool) → is_before y t ≡ b → remove_first (is_same t) (placed is_before t ys) ≡ ys → remove_first (is_same t) (if b then y ∷ placed is_before t ys else t ∷ y ∷ ys) ≡ y ∷ ys
    go true e more = rw (other_before t y e) (ap (λ l. y ∷ l) more)
    go false e more = rw (same_itself t) refl

-- two are put in in either order
pub with_swap : (x y : DueAction) (ds : List DueAction) → with_due x (with_due y ds) ≡ with_due y (with_due x ds)
with_swap x y ds = go (is_before x y) (is_before y x) refl refl
  where
    go : (b c : Bool) → is_before x y ≡ b → is_before y x ≡ c → with_due x (with_due y ds) ≡ with_due y (with_due x ds)
    go true c e f = placed_swap is_before before_order x y ds (rw e refl)
    go false true e f = placed_swap is_before before_order x y ds (rw (e, f) refl)
    go false false e f = subst (λ (z : DueAction). with_due x (with_due z ds) ≡ with_due z (with_due x ds)) (same x y e f) refl

-- ---- the least

pub first_least : (ds : List DueAction) → IsUnreversed ds → slice_get ds 0 ≡ least ds
first_least [] h = refl
first_least (x ∷ xs) h = sym (least_is x (x ∷ xs) (inl refl) (not_before_itself x, h.0))

-- that of the list in order is the list's
pub least_in_order : (ds : List DueAction) → least (in_order is_before ds) ≡ least ds
least_in_order ds = go (in_order is_before ds) refl (unreversed_in_order ds)
  where
    none : (ds : List DueAction) → in_order is_before ds ≡ [] → least [] ≡ least ds
    none [] e = refl
    none (d ∷ ds) e = let un : suc (length (in_order is_before ds)) ≡ 0 = sym (length-placed is_before d (in_order is_before ds)) ∙ ap length e in absurd (omega arith)

    go : (es : List DueAction) → in_order is_before ds ≡ es → IsUnreversed es → least es ≡ least ds
    go [] e h = none ds e
    go (x ∷ xs) e h =
        least_is x (x ∷ xs) (inl refl) (not_before_itself x, h.0)
        ∙ sym (least_is x ds (in_order_in x ds (subst (IsIn x) (sym e) (inl refl)))
        (in_order_back is_before (λ d. is_before d x ≡ false) ds (subst (λ (fs : List DueAction). AllByRecursion (λ d. is_before d x ≡ false) fs) (sym e) (not_before_itself x, h.0))))
