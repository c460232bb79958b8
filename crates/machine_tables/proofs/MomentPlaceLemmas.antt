-- The first moment at or after another, and moments in order.
use Rattle.std.proofs.Common.{◌≡◌, ℕ, ◌+◌, ◌-◌, ◌<◌, ◌≤◌, Bool, true, false, ◌&&◌, List, [], ◌∷◌, ◌++◌, length, get_or, nat_le, nat_lt, slice_get, refl, sym, ap, ◌∙◌, inl, inr, arith}
use Rattle.std.specs.List.{position_or_len}
use Rattle.std.specs.Option.{option_map_or}
use Rattle.std.specs.List.Sorted.{IsNonDecreasing, IsPartitionPoint, IsPartitionedBy}
use Rattle.std.proofs.lemmas.Bool.{cases_lt}
use Rattle.std.proofs.lemmas.Bool.Decides.{nat_tests}
use Rattle.std.proofs.lemmas.List.Sums.{position_or_len_is}
use Rattle.std.proofs.lemmas.List.Sorted.{IsNonDecreasingBy-push, IsNonDecreasingBy-drop}
use Rattle.std.proofs.lemmas.Option.{slice_get-get_or}
use Rattle.container_table.specs.Lists.{last_of}
use Rattle.machine_tables.specs.Views.Moments.{is_since_there, is_until_last}
use Rattle.machine_tables.proofs.LastLemmas.{length_last}

-- ---- in order

-- moments in order lie before another up to some place
pub parted : (moment : ℕ) (xs : List ℕ) → IsNonDecreasing xs → IsPartitionedBy (λ m. nat_lt m moment) xs
parted moment xs sorted i j d le lt before = let low = sorted i j d le lt in grind (arith, nat_tests, low, before)

before_not : (moment m : ℕ) → nat_lt m moment ≡ true → nat_le moment m ≡ false
before_not moment m e = grind (arith, nat_tests, e)

since_is : (moment m : ℕ) → nat_lt m moment ≡ false → nat_le moment m ≡ true
since_is moment m e = grind (arith, nat_tests, e)

-- where these end, the first at or after it stands
pub pointed : (moment n : ℕ) (xs : List ℕ) → n ≤ length xs → IsPartitionPoint (λ m. nat_lt m moment ≡ true) (λ m. nat_lt m moment ≡ false) xs n
    → n ≡ position_or_len (nat_le moment) xs
pointed moment n xs le point =
    sym (position_or_len_is (nat_le moment) xs n 0 le (λ k low. before_not moment (get_or xs k 0) (point.0 k 0 (omega arith) low))
    (λ low. since_is moment (get_or xs n 0) (point.1 n 0 (omega arith) low)))

until_last : (moment : ℕ) (xs : List ℕ) → is_until_last moment xs ≡ true → (d : ℕ) → 0 < length xs → get_or xs (length xs - 1) d ≤ moment
until_last moment xs e d some =
    let there = ap (λ o. option_map_or (λ m. nat_le m moment) o true) (sym (slice_get-get_or xs (length xs - 1) d (omega arith))) ∙ e in
    grind (arith, nat_tests, there)

both : (a b : Bool) → (a && b) ≡ true → (a ≡ true) × (b ≡ true)
both true b e = (refl, e)
both false b e = absurd (cc)

-- they stay so with one more that isn't before the last one
pub in_order_next : (n : ℕ) (xs : List ℕ) (y : ℕ) (noted : Bool) → (noted ≡ true → IsNonDecreasing xs) → (noted && is_until_last y xs) ≡ true
    → IsNonDecreasing (last_of n (xs ++ y ∷ []))
in_order_next n xs y noted ordered e =
    let q = both noted (is_until_last y xs) e in
    IsNonDecreasingBy-drop (λ m. m) (length (xs ++ y ∷ []) - n) (xs ++ y ∷ [])
    (IsNonDecreasingBy-push (λ m. m) xs y (ordered q.0) (until_last y xs q.1))

pub few_last : (n : ℕ) (xs ys : List ℕ) → ys ≡ last_of n xs → length ys ≤ n
few_last n xs ys is = let e = ap length is in let f = length_last n xs in omega (arith, e, f)

-- ---- in any order

there : (moment : ℕ) (xs : List ℕ) (i d : ℕ) → i < length xs → is_since_there moment (slice_get xs i) ≡ nat_le moment (get_or xs i d)
there moment xs i d w = ap (is_since_there moment) (slice_get-get_or xs i d w)

-- one more is before the moment
pub scanned_more : (moment : ℕ) (xs : List ℕ) (i : ℕ) → i < length xs → ((k d : ℕ) → k < i → nat_le moment (get_or xs k d) ≡ false)
    → is_since_there moment (slice_get xs i) ≡ false → (k d : ℕ) → k < i + 1 → nat_le moment (get_or xs k d) ≡ false
scanned_more moment xs i w below e k d b = elim (cases_lt k i) [
  | inl low ↦ below k d low
  | inr high ↦ let same : k ≡ i = omega arith in rw same (sym (there moment xs i d w) ∙ e)
]

-- the first at or after the moment
pub scanned_here : (moment : ℕ) (xs : List ℕ) (i : ℕ) → i < length xs → ((k d : ℕ) → k < i → nat_le moment (get_or xs k d) ≡ false)
    → is_since_there moment (slice_get xs i) ≡ true → i ≡ position_or_len (nat_le moment) xs
scanned_here moment xs i w below e =
    sym (position_or_len_is (nat_le moment) xs i 0 (omega arith) (λ k b. below k 0 b) (λ _. sym (there moment xs i 0 w) ∙ e))

-- all are before the moment
pub scanned_all : (moment : ℕ) (xs : List ℕ) (n : ℕ) → n ≡ length xs → ((k d : ℕ) → k < n → nat_le moment (get_or xs k d) ≡ false)
    → n ≡ position_or_len (nat_le moment) xs
scanned_all moment xs n w below = sym (position_or_len_is (nat_le moment) xs n 0 (omega arith) (λ k b. below k 0 b) (λ b. absurd (omega arith)))
