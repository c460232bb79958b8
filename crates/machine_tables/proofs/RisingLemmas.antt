-- Tickets whose numbers rise.
use Rattle.std.proofs.Common.{◌≡◌, ℕ, zero, suc, ◌-◌, ◌<◌, Bool, true, false, List, [], ◌∷◌, ◌++◌, length, get_or, if◌then◌else◌, eqb, arith}
use Rattle.std.specs.List.{AllByRecursion}
use Rattle.std.specs.List.Sorted.{IsStrictlySortedBy}
use Rattle.std.specs.Ordering.{nat_cmp, is_eq}
use Rattle.std.specs.declared.cmp.Ordering.TheVariants.{Less}
use Rattle.std.proofs.lemmas.Bool.Decides.{nat_tests}
use native.Mathlib.Numerals.{unary_clauses}
use Rattle.container_table.specs.Lists.{remove_first}
use Rattle.machine_tables.specs.declared.held.HeldTicket.{HeldTicket}
use Rattle.machine_tables.specs.Places.{at_place}
use Rattle.machine_tables.specs.Rising.{by_number}

-- two numbers are equal where their order says so
pub same_number : (a b : ℕ) → eqb a b ≡ is_eq (nat_cmp a b)
same_number a b = grind (arith, nat_tests)

less : (a b : ℕ) → a < b → nat_cmp a b ≡ Less
less a b h = grind (arith, nat_tests)

lower : (a b : ℕ) → nat_cmp a b ≡ Less → a < b
lower a b h = grind (arith, nat_tests, h)

-- all that follow are above n
abbrev Above : ℕ → List HeldTicket → Type 0
Above n xs = AllByRecursion (λ y. nat_cmp n y.number ≡ Less) xs

all_push : (n : ℕ) (xs : List HeldTicket) (y : HeldTicket) → Above n xs → nat_cmp n y.number ≡ Less → Above n (xs ++ y ∷ [])
all_push n [] y all one = (one, tt)
all_push n (x ∷ xs) y all one = (all.0, all_push n xs y all.1 one)

last_above : (n : ℕ) (x : HeldTicket) (xs : List HeldTicket) (d : HeldTicket) → Above n (x ∷ xs) → n < (get_or (x ∷ xs) (length xs) d).number
last_above n x [] d all = lower n x.number all.0
last_above n x (x' ∷ xs) d all = last_above n x' xs d all.1

push_on : (x : HeldTicket) (xs : List HeldTicket) (y : HeldTicket) → IsStrictlySortedBy by_number (x ∷ xs) → ((d : HeldTicket) → (get_or (x ∷ xs) (length xs) d).number < y.number)
    → IsStrictlySortedBy by_number (x ∷ xs ++ y ∷ [])
unfolding IsStrictlySortedBy
push_on x [] y sorted h = ((less x.number y.number (h x), tt), (tt, tt))
push_on x (x' ∷ xs) y sorted h =
    let below : x.number < y.number = omega (arith, last_above x.number x' xs x sorted.0, h x) in
    (all_push x.number (x' ∷ xs) y sorted.0 (less x.number y.number below), push_on x' xs y sorted.1 h)

-- a ticket above the last comes last
pub rises_push : (xs : List HeldTicket) (y : HeldTicket) → IsStrictlySortedBy by_number xs → ((d : HeldTicket) → 0 < length xs → (get_or xs (length xs - 1) d).number < y.number)
    → IsStrictlySortedBy by_number (xs ++ y ∷ [])
unfolding IsStrictlySortedBy
rises_push [] y sorted above = (tt, tt)
rises_push (x ∷ xs) y sorted above = push_on x xs y sorted (λ d. simp unary_clauses at (above d (omega arith)))

all_removed : (n : ℕ) (p : HeldTicket → Bool) (xs : List HeldTicket) → Above n xs → Above n (remove_first p xs)
all_removed n p [] all = tt
all_removed n p (x ∷ xs) all = by_test (p x) (all_removed n p xs all.1)
  where
    by_test : (b : Bool) → Above n (remove_first p xs) → Above n (if b then xs else x ∷ remove_first p xs)
    by_test true rest = all.1
    by_test false rest = (all.0, rest)

-- with one less they rise still
pub rises_removed : (p : HeldTicket → Bool) (xs : List HeldTicket) → IsStrictlySortedBy by_number xs → IsStrictlySortedBy by_number (remove_first p xs)
unfolding IsStrictlySortedBy
rises_removed p [] sorted = tt
rises_removed p (x ∷ xs) sorted = by_test (p x) (all_removed x.number p xs sorted.0) (rises_removed p xs sorted.1)
  where
    by_test : (b : Bool) → Above x.number (remove_first p xs) → IsStrictlySortedBy by_number (remove_first p xs) → IsStrictlySortedBy by_number (if b then xs else x ∷ remove_first p xs)
    by_test true all rest = sorted.1
    by_test false all rest = (all, rest)

module _ (f : HeldTicket → HeldTicket) (same : (x : HeldTicket) → (f x).number ≡ x.number) where
  all_placed : (n i : ℕ) (xs : List HeldTicket) → Above n xs → Above n (at_place f i xs)
  all_placed n i [] all = tt
  all_placed n zero (x ∷ xs) all = (rw (same x) all.0, all.1)
  all_placed n (suc i) (x ∷ xs) all = (all.0, all_placed n i xs all.1)

  -- a change that leaves the number leaves the order
  pub rises_placed : (i : ℕ) (xs : List HeldTicket) → IsStrictlySortedBy by_number xs → IsStrictlySortedBy by_number (at_place f i xs)
  unfolding IsStrictlySortedBy
  rises_placed i [] sorted = tt
  rises_placed zero (x ∷ xs) sorted = (rw (same x) sorted.0, sorted.1)
  rises_placed (suc i) (x ∷ xs) sorted = (all_placed x.number i xs sorted.0, rises_placed i xs sorted.1)

-- no tickets rise
pub rises_none : (xs : List HeldTicket) → xs ≡ [] → IsStrictlySortedBy by_number xs
unfolding IsStrictlySortedBy
rises_none xs e = rw e tt
