-- own: execs stay in order of number, and what a container's first exec is.
use Rattle.std.proofs.Common.{◌≡◌, ℕ, ◌<◌, Bool, true, false, List, [], ◌∷◌, ◌++◌, if◌then◌else◌, eqb, arith, map, filter, Some, refl}
use Rattle.std.specs.List.{AllByRecursion}
use Rattle.std.specs.List.Sorted.{IsStrictlySortedBy}
use Rattle.std.specs.Ordering.{nat_cmp, is_eq}
use Rattle.std.specs.declared.cmp.Ordering.TheVariants.{Less}
use Rattle.std.proofs.lemmas.Bool.Decides.{nat_tests}
use Rattle.engine_text.specs.declared.exec.Exec.{Exec}
use Rattle.exec_table.specs.ExecsInside.{by_row, execs_in}
use Rattle.container_table.proofs.PlacedLemmas.{AreAlone}
use Rattle.exec_table.specs.Execs.{exec_numbered}
use Rattle.exec_table.specs.declared.row.Row.{Row}

-- Two numbers are equal where their order says so.
pub same_number : (a b : ℕ) → eqb a b ≡ is_eq (nat_cmp a b)
same_number a b = grind (arith, nat_tests)

less : (a b : ℕ) → a < b → nat_cmp a b ≡ Less
less a b h = grind (arith, nat_tests)

all_push : (P : Row → Type 0) (xs : List Row) (y : Row) → AllByRecursion P xs → P y → AllByRecursion P (xs ++ y ∷ [])
all_push P [] y all one = (one, tt)
all_push P (x ∷ xs) y all one = (all.0, all_push P xs y all.1 one)

-- An exec above all others comes last.
pub sorted_push : (xs : List Row) (y : Row) → IsStrictlySortedBy by_row xs → AllByRecursion (λ x. x.number < y.exec.number) (execs_in xs) → IsStrictlySortedBy by_row (xs ++ y ∷ [])
unfolding IsStrictlySortedBy
sorted_push [] y sorted above = (tt, tt)
sorted_push (x ∷ xs) y sorted above =
    (all_push (λ z. by_row x z ≡ Less) xs y sorted.0 (less x.exec.number y.exec.number above.0), sorted_push xs y sorted.1 above.1)

-- rows with the same numbers are in the same order
below_same : (n : ℕ) (xs ys : List Row) → map (λ r. r.exec.number) ys ≡ map (λ r. r.exec.number) xs → AllByRecursion (λ y. nat_cmp n y.exec.number ≡ Less) xs → AllByRecursion (λ y. nat_cmp n y.exec.number ≡ Less) ys
below_same n xs [] e all = tt
below_same n [] (y ∷ ys) e all = absurd (cc)
below_same n (x ∷ xs) (y ∷ ys) e all =
    let first : y.exec.number ≡ x.exec.number = cc in
    let rest : map (λ r. r.exec.number) ys ≡ map (λ r. r.exec.number) xs = cc in
    (rw first all.0, below_same n xs ys rest all.1)

pub sorted_same : (xs ys : List Row) → map (λ r. r.exec.number) ys ≡ map (λ r. r.exec.number) xs → IsStrictlySortedBy by_row xs → IsStrictlySortedBy by_row ys
unfolding IsStrictlySortedBy
sorted_same xs [] e sorted = tt
sorted_same [] (y ∷ ys) e sorted = absurd (cc)
sorted_same (x ∷ xs) (y ∷ ys) e sorted =
    let first : y.exec.number ≡ x.exec.number = cc in
    let rest : map (λ r. r.exec.number) ys ≡ map (λ r. r.exec.number) xs = cc in
    (below_same y.exec.number xs ys rest (rw first sorted.0), sorted_same xs ys rest sorted.1)

-- no rows are in order
pub sorted_none : (xs : List Row) → xs ≡ [] → IsStrictlySortedBy by_row xs
unfolding IsStrictlySortedBy
sorted_none xs e = rw e tt

all_some : (P : Row → Type 0) (p : Row → Bool) (xs : List Row) → AllByRecursion P xs → AllByRecursion P (filter p xs)
all_some P p [] all = tt
all_some P p (x ∷ xs) all = by_test (p x) (all_some P p xs all.1)
  where
    by_test : (b : Bool) → AllByRecursion P (filter p xs) → AllByRecursion P (if b then x ∷ filter p xs else filter p xs)
    by_test true rest = (all.0, rest)
    by_test false rest = rest

-- some of the rows are in order
pub sorted_some : (p : Row → Bool) (xs : List Row) → IsStrictlySortedBy by_row xs → IsStrictlySortedBy by_row (filter p xs)
unfolding IsStrictlySortedBy
sorted_some p [] sorted = tt
sorted_some p (x ∷ xs) sorted = by_test (p x) (sorted_some p xs sorted.1)
  where
    by_test : (b : Bool) → IsStrictlySortedBy by_row (filter p xs) → IsStrictlySortedBy by_row (if b then x ∷ filter p xs else filter p xs)
    by_test true rest = (all_some (λ y. by_row x y ≡ Less) p xs sorted.0, rest)
    by_test false rest = rest

own_number : (x : Exec) → eqb x.number x.number ≡ true
own_number x = grind (arith, nat_tests)

pub other_number : (x y : Exec) → nat_cmp x.number y.number ≡ Less → eqb x.number y.number ≡ false
other_number x y e = grind (arith, nat_tests, e)

-- each exec is the one of its number
pub all_numbered : (xs : List Row) → IsStrictlySortedBy by_row xs → AllByRecursion (λ x. exec_numbered x.number (execs_in xs) ≡ Some x) (execs_in xs)
unfolding IsStrictlySortedBy
all_numbered [] sorted = tt
all_numbered (x ∷ xs) sorted = (rw (own_number x.exec) refl, go xs sorted.0 (all_numbered xs sorted.1))
  where
    go : (l : List Row) → AllByRecursion (λ y. by_row x y ≡ Less) l → AllByRecursion (λ y. exec_numbered y.number (execs_in xs) ≡ Some y) (execs_in l) → AllByRecursion (λ y. exec_numbered y.number (execs_in (x ∷ xs)) ≡ Some y) (execs_in l)
    go [] less are = tt
    go (y ∷ ys) less are = (rw (other_number x.exec y.exec less.0) are.0, go ys less.1 are.1)

numbers_differ : (n : ℕ) (x y : Exec) → nat_cmp x.number y.number ≡ Less → eqb x.number n ≡ true → eqb y.number n ≡ false
numbers_differ n x y e f = grind (arith, nat_tests, e, f)

-- one exec at most has a number
pub numbers_alone : (n : ℕ) (rows : List Row) → IsStrictlySortedBy by_row rows → AreAlone (λ x. eqb x.number n) (execs_in rows)
unfolding IsStrictlySortedBy
numbers_alone n [] sorted = tt
numbers_alone n (r ∷ rs) sorted = (λ e. go e rs sorted.0, numbers_alone n rs sorted.1)
  where
    go : eqb r.exec.number n ≡ true → (l : List Row) → AllByRecursion (λ s. by_row r s ≡ Less) l → AllByRecursion (λ x. eqb x.number n ≡ false) (execs_in l)
    go e [] less = tt
    go e (s ∷ ss) less = (numbers_differ n r.exec s.exec less.0 e, go e ss less.1)
