-- Between which places a number can stand among numbers that rise.
use Rattle.std.proofs.Common.{◌≡◌, ℕ, suc, zero, ◌+◌, ◌<◌, ◌≤◌, Bool, true, false, List, [], ◌∷◌, length, get_or, take, drop, refl, subst, arith, leb}
use Rattle.std.specs.Prelude.{◌-◌, nat_lt}
use Rattle.std.specs.List.{AllByRecursion, AllWithin}
use Rattle.std.proofs.lemmas.Bool.Decides.{nat_tests}
use Rattle.container_table.specs.Order.{IsInOrder}
use Rattle.container_table.proofs.PlacedLemmas.{all_imp}
use Rattle.container_table.proofs.SearchLemmas.{all_at}

-- ---- numbers that rise are each one more, at least, than the one before

lower : (a b : ℕ) → nat_lt a b ≡ true → a < b
lower a b e = grind (arith, nat_tests, e)

climbs : (m : ℕ) (ms : List ℕ) (d : ℕ) → IsInOrder nat_lt (m ∷ ms) → m + length ms ≤ get_or (m ∷ ms) (length ms) d
climbs m [] d h = omega arith
climbs m (x ∷ xs) d h =
    let first : m < x = lower m x h.0.0 in
    let rest : x + length xs ≤ get_or (x ∷ xs) (length xs) d = climbs x xs d h.1 in omega arith

pub lows : (m : ℕ) (ms : List ℕ) (k n d : ℕ) → IsInOrder nat_lt (m ∷ ms) → k + get_or (m ∷ ms) (length ms) d ≤ length ms + n → AllByRecursion (λ x. x < n) (take k (m ∷ ms))
lows m ms zero n d h low = tt
lows m [] (suc k) n d h low = (omega arith, none k)
  where
    none : (k : ℕ) → AllByRecursion (λ x. x < n) (take k [])
    none zero = tt
    none (suc k) = tt
lows m (x ∷ xs) (suc k) n d h low =
    let up : m + suc (length xs) ≤ get_or (x ∷ xs) (length xs) d = climbs m (x ∷ xs) d h in
    (omega arith, lows x xs k n d h.1 (omega arith))

-- the last of them tells how many are below a number
pub below_last : (ns : List ℕ) (k n last : ℕ) → IsInOrder nat_lt ns → last ≡ get_or ns (length ns - 1) last → k + last ≤ (length ns - 1) + n → AllByRecursion (λ x. x < n) (take k ns)
below_last [] k n last h e low = none k
  where
    none : (k : ℕ) → AllByRecursion (λ x. x < n) (take k [])
    none zero = tt
    none (suc k) = tt
below_last (m ∷ ms) k n last h e low =
    let is : last ≡ get_or (m ∷ ms) (length ms) last = subst (λ (i : ℕ). last ≡ get_or (m ∷ ms) i last) (one_less (length ms)) e in lows m ms k n last h (omega arith)
  where
    one_less : (i : ℕ) → suc i - 1 ≡ i
    one_less i = omega arith

pub below_least : (ns : List ℕ) (k n last : ℕ) → IsInOrder nat_lt ns → last ≡ get_or ns (length ns - 1) last → n ≤ last → k ≡ (length ns - 1) - (last - n) → AllByRecursion (λ x. x < n) (take k ns)
below_least ns zero n last h e low is = tt
below_least ns (suc k) n last h e low is = below_last ns (suc k) n last h e (omega arith)

highs : (m : ℕ) (ms : List ℕ) (k n : ℕ) → IsInOrder nat_lt (m ∷ ms) → n < m + k → AllByRecursion (λ x. n < x) (drop k (m ∷ ms))
highs m ms zero n h high = (omega arith, all_imp (λ x. nat_lt m x ≡ true) (λ x. n < x) (λ x e. let up : m < x = lower m x e in omega arith) ms h.0)
highs m [] (suc k) n h high = none k
  where
    none : (k : ℕ) → AllByRecursion (λ x. n < x) (drop k [])
    none zero = tt
    none (suc k) = tt
highs m (x ∷ xs) (suc k) n h high = let up : m < x = lower m x h.0.0 in highs x xs k n h.1 (omega arith)

all_past : (ns : List ℕ) (k n : ℕ) → length ns ≤ k → AllByRecursion (λ x. n < x) (drop k ns)
all_past [] zero n low = tt
all_past [] (suc k) n low = tt
all_past (m ∷ ms) zero n low = absurd (omega arith)
all_past (m ∷ ms) (suc k) n low = all_past ms k n (omega arith)

-- the first of them tells how many aren't above it
pub above_first : (ns : List ℕ) (k n first : ℕ) → IsInOrder nat_lt ns → first ≡ get_or ns 0 first → (k < length ns → n < first + k) → AllByRecursion (λ x. n < x) (drop k ns)
above_first [] k n first h e high = all_past [] k n (omega arith)
above_first (m ∷ ms) k n first h e high = go (leb (length (m ∷ ms)) k) refl
  where
    is : first ≡ m
    is = e

    go : (t : Bool) → leb (length (m ∷ ms)) k ≡ t → AllByRecursion (λ x. n < x) (drop k (m ∷ ms))
    go true f = all_past (m ∷ ms) k n (grind (arith, nat_tests, f))
    go false f =
        let less : k < length (m ∷ ms) = grind (arith, nat_tests, f) in
        let up : n < first + k = high less in highs m ms k n h (subst (λ (x : ℕ). n < x + k) is up)

-- what is below the number stands before what is above it
pub spans : (ns : List ℕ) (low high n : ℕ) → low ≤ length ns → AllByRecursion (λ x. x < n) (take low ns) → AllByRecursion (λ x. n < x) (drop high ns) → low ≤ high
spans ns zero high n bound below above = omega arith
spans [] (suc low) high n bound below above = absurd (omega arith)
spans (m ∷ ms) (suc low) zero n bound below above = let up : n < m = above.0 in let down : m < n = below.0 in absurd (omega arith)
spans (m ∷ ms) (suc low) (suc high) n bound below above = let rest : low ≤ high = spans ms low high n (omega arith) below.1 above in omega arith

module _ {Y : Type 0} where
  -- ---- what holds of a beginning or of an end, by places

  pub within_taken : (P : Y → Type 0) (ys : List Y) (k : ℕ) → k ≤ length ys → AllByRecursion P (take k ys) → AllWithin P ys 0 k
  within_taken P ys zero bound h i d low high = absurd (omega arith)
  within_taken P [] (suc k) bound h i d low high = absurd (omega arith)
  within_taken P (y ∷ ys) (suc k) bound h zero d low high = h.0
  within_taken P (y ∷ ys) (suc k) bound h (suc i) d low high = within_taken P ys k (omega arith) h.1 i d (omega arith) (omega arith)

  pub within_dropped : (P : Y → Type 0) (ys : List Y) (k : ℕ) → AllByRecursion P (drop k ys) → AllWithin P ys k (length ys)
  within_dropped P ys zero h i d low high = all_at P ys i d h high
  within_dropped P [] (suc k) h i d low high = absurd (omega arith)
  within_dropped P (y ∷ ys) (suc k) h zero d low high = absurd (omega arith)
  within_dropped P (y ∷ ys) (suc k) h (suc i) d low high = within_dropped P ys k h i d (omega arith) (omega arith)
