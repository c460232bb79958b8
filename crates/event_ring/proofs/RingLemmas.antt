-- own: what is kept of the last events, and where halving ends.
use Rattle.std.proofs.Common.{◌≡◌, ℕ, ◌+◌, ◌-◌, ◌<◌, ◌≤◌, Bool, true, false, ◌&&◌, List, [], ◌∷◌, ◌++◌, length, get_or, drop, min, slice_get, Some, zero, suc, refl, sym, ap, ◌∙◌, subst, inl, inr, arith, length-append, length-drop}
use Rattle.std.specs.List.{position_or_len}
use Rattle.std.proofs.lemmas.Bool.{cases_lt}
use Rattle.std.proofs.lemmas.Bool.Decides.{nat_tests}
use Rattle.std.proofs.Math.ListN.{drop_of_length-le}
use Rattle.std.proofs.lemmas.List.Sums.{position_or_len_is}
use Rattle.std.proofs.lemmas.List.Sorted.{IsNonDecreasingBy-push, IsNonDecreasingBy-drop}
use Rattle.std.proofs.lemmas.Option.{slice_get-get_or}
use Rattle.engine_text.specs.Lists.{last_of}
use Rattle.engine_text.specs.declared.event.Event.{Event}
use Rattle.event_ring.specs.Ring.{is_since}
use Rattle.event_ring.specs.RingInside.{AreInOrder, is_since_there, is_until_there}

-- How many of so many are the last n.
pub length_last : (n : ℕ) (xs : List Event) → length (last_of n xs) ≡ min (length xs) n
length_last n xs = omega (arith, length-drop (length xs - n) xs)

-- The last n of one more.
pub length_next : (n c : ℕ) (xs : List Event) (y : Event) → length xs ≡ min c n → length (last_of n (xs ++ y ∷ [])) ≡ min (c + 1) n
length_next n c xs y e =
    let more = length-append xs (y ∷ []) in
    let last = length_last n (xs ++ y ∷ []) in
    omega arith

both : (a b : Bool) → (a && b) ≡ true → (a ≡ true) × (b ≡ true)
both true b e = (refl, e)
both false b e = absurd (cc)

until_last : (moment : ℕ) (xs : List Event) → is_until_there moment (slice_get xs (length xs - 1)) ≡ true → (d : Event) → 0 < length xs → (get_or xs (length xs - 1) d).moment ≤ moment
until_last moment xs e d some =
    let there = ap (is_until_there moment) (sym (slice_get-get_or xs (length xs - 1) d (omega arith))) ∙ e in
    grind (arith, nat_tests, there)

-- In order with one more that isn't before the last one.
pub in_order_next : (n : ℕ) (xs : List Event) (y : Event) (noted is_last : Bool) → (noted ≡ true → AreInOrder xs) → is_last ≡ is_until_there y.moment (slice_get xs (length xs - 1))
    → (noted && is_last) ≡ true → AreInOrder (last_of n (xs ++ y ∷ []))
in_order_next n xs y noted is_last ordered is e =
    let q = both noted is_last e in
    let moment = λ (x : Event). x.moment in
    IsNonDecreasingBy-drop moment (length (xs ++ y ∷ []) - n) (xs ++ y ∷ [])
    (IsNonDecreasingBy-push moment xs y (ordered q.0) (until_last y.moment xs (sym is ∙ q.1)))

-- ---- halving

-- none below `low` is at or after the moment, and one that stands at `high` is
pub record Halves (moment : ℕ) (xs : List Event) (low high : ℕ) : Type 0 where
  pub ordered : low ≤ high
  pub within : high ≤ length xs
  pub below : (k : ℕ) (d : Event) → k < low → is_since moment (get_or xs k d) ≡ false
  pub above : (d : Event) → high < length xs → is_since moment (get_or xs high d) ≡ true

there : (moment : ℕ) (xs : List Event) (i : ℕ) (d : Event) → i < length xs → is_since_there moment (slice_get xs i) ≡ is_since moment (get_or xs i d)
there moment xs i d w = ap (is_since_there moment) (slice_get-get_or xs i d w)

earlier : (moment : ℕ) (a b : Event) → a.moment ≤ b.moment → is_since moment b ≡ false → is_since moment a ≡ false
earlier moment a b le e = grind (arith, nat_tests, le, e)

-- One at or after the moment stands in the middle.
pub lower_half : (moment : ℕ) (xs : List Event) (low high middle : ℕ) → Halves moment xs low high → low ≤ middle → middle < high
    → is_since_there moment (slice_get xs middle) ≡ true → Halves moment xs low middle
lower_half moment xs low high middle h a b e = record {
  ordered = a;
  within = omega (arith, h.within);
  below = h.below;
  above = λ d w. sym (there moment xs middle d w) ∙ e;
}

-- One before the moment stands in the middle.
pub upper_half : (moment : ℕ) (xs : List Event) (low high middle : ℕ) → AreInOrder xs → Halves moment xs low high → low ≤ middle → middle < high
    → is_since_there moment (slice_get xs middle) ≡ false → Halves moment xs (middle + 1) high
upper_half moment xs low high middle sorted h a b e = record {
  ordered = omega arith;
  within = h.within;
  below = λ k d c.
      earlier moment (get_or xs k d) (get_or xs middle d) (sorted k middle d (omega arith) (omega (arith, h.within)))
      (sym (there moment xs middle d (omega (arith, h.within))) ∙ e);
  above = h.above;
}

-- Where both meet, the first at or after the moment stands.
pub halves_meet : (moment : ℕ) (xs : List Event) (low high : ℕ) → Halves moment xs low high → high ≤ low → low ≡ position_or_len (is_since moment) xs
halves_meet moment [] low high h e = let w = h.within in let o = h.ordered in omega arith
halves_meet moment (x ∷ xs) low high h e =
    let same : high ≡ low = omega (arith, h.ordered) in
    sym (position_or_len_is (is_since moment) (x ∷ xs) low x (omega (arith, h.within, h.ordered)) (λ k b. h.below k x b)
    (λ w. subst (λ i. is_since moment (get_or (x ∷ xs) i x) ≡ true) same (h.above x (omega arith))))

-- ---- scanning

-- One more is before the moment.
pub scanned_more : (moment : ℕ) (xs : List Event) (i : ℕ) → i < length xs → ((k : ℕ) (d : Event) → k < i → is_since moment (get_or xs k d) ≡ false)
    → is_since_there moment (slice_get xs i) ≡ false → (k : ℕ) (d : Event) → k < i + 1 → is_since moment (get_or xs k d) ≡ false
scanned_more moment xs i w below e k d b = elim (cases_lt k i) [
  | inl low ↦ below k d low
  | inr high ↦ let same : k ≡ i = omega arith in rw same (sym (there moment xs i d w) ∙ e)
]

-- The first at or after the moment.
pub scanned_here : (moment : ℕ) (xs : List Event) (i : ℕ) → i < length xs → ((k : ℕ) (d : Event) → k < i → is_since moment (get_or xs k d) ≡ false)
    → is_since_there moment (slice_get xs i) ≡ true → i ≡ position_or_len (is_since moment) xs
scanned_here moment [] i w below e = absurd (omega arith)
scanned_here moment (x ∷ xs) i w below e =
    sym (position_or_len_is (is_since moment) (x ∷ xs) i x (omega arith) (λ k b. below k x b) (λ _. sym (there moment (x ∷ xs) i x w) ∙ e))

-- All are before the moment.
pub scanned_all : (moment : ℕ) (xs : List Event) (n : ℕ) → n ≡ length xs → ((k : ℕ) (d : Event) → k < n → is_since moment (get_or xs k d) ≡ false)
    → n ≡ position_or_len (is_since moment) xs
scanned_all moment [] n w below = w
scanned_all moment (x ∷ xs) n w below =
    sym (position_or_len_is (is_since moment) (x ∷ xs) n x (omega arith) (λ k b. below k x b) (λ b. absurd (omega arith)))

-- ---- the rest from a place on

pub rest_some : (xs : List Event) (i : ℕ) (x : Event) → slice_get xs i ≡ Some x → drop i xs ≡ x ∷ drop (i + 1) xs
rest_some xs i x e = subst (λ j. drop i xs ≡ x ∷ drop j xs) {x = suc i} (omega arith) (by_place xs i e)
  where
    by_place : (xs : List Event) (i : ℕ) → slice_get xs i ≡ Some x → drop i xs ≡ x ∷ drop (suc i) xs
    by_place [] i e = absurd (cc)
    by_place (y ∷ ys) zero e = cc
    by_place (y ∷ ys) (suc i) e = by_place ys i e

pub rest_none : (xs : List Event) (i : ℕ) → length xs ≤ i → drop i xs ≡ []
rest_none xs i h = drop_of_length-le xs h
