-- The outputs of a container's execs, told by their rows.
use Rattle.std.proofs.Common.{◌≡◌, ℕ, Bool, true, false, not, List, [], ◌∷◌, length, map, filter, refl, sym, ◌∙◌, ap, eqb, if◌then◌else◌, arith}
use Rattle.std.specs.List.{AllByRecursion, list_any}
use Rattle.std.specs.List.Sorted.{IsStrictlySortedBy}
use Rattle.std.specs.Ordering.{nat_cmp}
use Rattle.std.specs.declared.cmp.Ordering.TheVariants.{Less}
use Rattle.std.proofs.lemmas.Bool.Decides.{nat_tests}
use Rattle.std.proofs.lemmas.List.{length-map}
use Rattle.engine_text.specs.declared.exec.Exec.{Exec}
use Rattle.exec_table.specs.Execs.{is_output_of, without_execs_of, execs_of}
use Rattle.exec_table.specs.ExecsInside.{by_row, execs_in, output_in, outputs_in}
use Rattle.exec_table.specs.declared.row.Row.{Row}

own_number : (k : ℕ) → eqb k k ≡ true
own_number k = grind (arith, nat_tests)

number_behind : (k n : ℕ) → nat_cmp k n ≡ Less → eqb n k ≡ false
number_behind k n e = grind (arith, nat_tests, e)

number_ahead : (k n : ℕ) → nat_cmp k n ≡ Less → eqb k n ≡ false
number_ahead k n e = grind (arith, nat_tests, e)

-- whether one of the container's execs has that number
abbrev has_number : ℕ → ℕ → List Exec → Bool
has_number n k xs = list_any (λ x. eqb k x.number) (filter (λ x. eqb x.container n) xs)

none_has : (n k : ℕ) (rows : List Row) → AllByRecursion (λ r. nat_cmp k r.exec.number ≡ Less) rows → has_number n k (execs_in rows) ≡ false
none_has n k [] h = refl
none_has n k (r ∷ rs) h = go (eqb r.exec.container n) (none_has n k rs h.1)
  where
    go : (b : Bool) → has_number n k (execs_in rs) ≡ false → list_any (λ x. eqb k x.number) (if b then r.exec ∷ filter (λ x. eqb x.container n) (execs_in rs) else filter (λ x. eqb x.container n) (execs_in rs)) ≡ false
    go true more = rw (number_ahead k r.exec.number h.0) more
    go false more = more

-- an output is of one of the container's execs exactly where its own exec is
pub own_outputs : (n : ℕ) (rows : List Row) → IsStrictlySortedBy by_row rows → AllByRecursion (λ r. is_output_of n (execs_in rows) (output_in r) ≡ eqb r.exec.container n) rows
unfolding IsStrictlySortedBy
own_outputs n [] sorted = tt
own_outputs n (r ∷ rs) sorted = (first (eqb r.exec.container n), rest rs sorted.0 (own_outputs n rs sorted.1))
  where
    first : (b : Bool) → list_any (λ x. eqb r.exec.number x.number) (if b then r.exec ∷ filter (λ x. eqb x.container n) (execs_in rs) else filter (λ x. eqb x.container n) (execs_in rs)) ≡ b
    first true = rw (own_number r.exec.number) refl
    first false = none_has n r.exec.number rs sorted.0

    one : (s : Row) (b : Bool) → nat_cmp r.exec.number s.exec.number ≡ Less → has_number n s.exec.number (execs_in rs) ≡ eqb s.exec.container n
        → list_any (λ x. eqb s.exec.number x.number) (if b then r.exec ∷ filter (λ x. eqb x.container n) (execs_in rs) else filter (λ x. eqb x.container n) (execs_in rs)) ≡ eqb s.exec.container n
    one s true e more = rw (number_behind r.exec.number s.exec.number e) more
    one s false e more = more

    rest : (l : List Row) → AllByRecursion (λ s. by_row r s ≡ Less) l → AllByRecursion (λ s. is_output_of n (execs_in rs) (output_in s) ≡ eqb s.exec.container n) l
        → AllByRecursion (λ s. is_output_of n (execs_in (r ∷ rs)) (output_in s) ≡ eqb s.exec.container n) l
    rest [] less are = tt
    rest (s ∷ ss) less are = (one s (eqb r.exec.container n) less.0 are.0, rest ss less.1 are.1)

-- ---- those that pass among what the rows mean

module _ {A B : Type 0} (g : A → B) where
  pub passing_in : (p : B → Bool) (q : A → Bool) (xs : List A) → AllByRecursion (λ x. p (g x) ≡ q x) xs → filter p (map g xs) ≡ map g (filter q xs)
  passing_in p q [] h = refl
  passing_in p q (x ∷ xs) h = go (q x) h.0 (passing_in p q xs h.1)
    where
      go : (b : Bool) → p (g x) ≡ b → filter p (map g xs) ≡ map g (filter q xs) → filter p (g x ∷ map g xs) ≡ map g (if b then x ∷ filter q xs else filter q xs)
      go true e more = rw e (ap (λ l. g x ∷ l) more)
      go false e more = rw e more

  same_not : (p : B → Bool) (q : A → Bool) (xs : List A) → AllByRecursion (λ x. p (g x) ≡ q x) xs → AllByRecursion (λ x. not (p (g x)) ≡ not (q x)) xs
  same_not p q [] h = tt
  same_not p q (x ∷ xs) h = (ap not h.0, same_not p q xs h.1)

  pub failing_in : (p : B → Bool) (q : A → Bool) (xs : List A) → AllByRecursion (λ x. p (g x) ≡ q x) xs → filter (λ y. not (p y)) (map g xs) ≡ map g (filter (λ x. not (q x)) xs)
  failing_in p q xs h = passing_in (λ y. not (p y)) (λ x. not (q x)) xs (same_not p q xs h)

-- ---- a container's rows

pub outputs_passing : (n : ℕ) (rows : List Row) → IsStrictlySortedBy by_row rows → filter (is_output_of n (execs_in rows)) (outputs_in rows) ≡ outputs_in (filter (λ r. eqb r.exec.container n) rows)
outputs_passing n rows sorted = passing_in output_in (is_output_of n (execs_in rows)) (λ r. eqb r.exec.container n) rows (own_outputs n rows sorted)

pub outputs_failing : (n : ℕ) (rows : List Row) → IsStrictlySortedBy by_row rows → filter (λ o. not (is_output_of n (execs_in rows) o)) (outputs_in rows) ≡ outputs_in (filter (λ r. not (eqb r.exec.container n)) rows)
outputs_failing n rows sorted = failing_in output_in (is_output_of n (execs_in rows)) (λ r. eqb r.exec.container n) rows (own_outputs n rows sorted)

each_same : (n : ℕ) (rows : List Row) → AllByRecursion (λ r. not (eqb r.exec.container n) ≡ not (eqb r.exec.container n)) rows
each_same n [] = tt
each_same n (r ∷ rs) = (refl, each_same n rs)

each_same' : (n : ℕ) (rows : List Row) → AllByRecursion (λ r. eqb r.exec.container n ≡ eqb r.exec.container n) rows
each_same' n [] = tt
each_same' n (r ∷ rs) = (refl, each_same' n rs)

pub execs_failing : (n : ℕ) (rows : List Row) → without_execs_of n (execs_in rows) ≡ execs_in (filter (λ r. not (eqb r.exec.container n)) rows)
execs_failing n rows = passing_in (λ (r : Row). r.exec) (λ x. not (eqb x.container n)) (λ r. not (eqb r.exec.container n)) rows (each_same n rows)

pub execs_passing : (n : ℕ) (rows : List Row) → execs_of n (execs_in rows) ≡ execs_in (filter (λ r. eqb r.exec.container n) rows)
execs_passing n rows = passing_in (λ (r : Row). r.exec) (λ x. eqb x.container n) (λ r. eqb r.exec.container n) rows (each_same' n rows)

pub count_passing : (n : ℕ) (rows : List Row) → IsStrictlySortedBy by_row rows → length (filter (λ r. eqb r.exec.container n) rows) ≡ length (filter (is_output_of n (execs_in rows)) (outputs_in rows))
count_passing n rows sorted =
    let e : length (outputs_in (filter (λ r. eqb r.exec.container n) rows)) ≡ length (filter (λ r. eqb r.exec.container n) rows) = simp length-map refl in
    sym e ∙ ap length (sym (outputs_passing n rows sorted))
