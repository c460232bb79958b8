-- A container's first exec taken out of the rows, and what that leaves.
use Rattle.std.proofs.Common.{◌≡◌, ℕ, Bool, true, false, not, if◌then◌else◌, List, [], ◌∷◌, ◌++◌, length, filter, find, get_or, position, Option, Some, None, refl, sym, ◌∙◌, subst, ap, eqb, arith, append_assoc}
use Rattle.std.specs.Prelude.{IsSome}
use Rattle.std.proofs.lemmas.Option.{same_Some}
use Rattle.std.specs.List.Sorted.{IsStrictlySortedBy}
use Rattle.std.specs.Ordering.{nat_cmp}
use Rattle.std.specs.declared.cmp.Ordering.TheVariants.{Less}
use Rattle.std.proofs.lemmas.Bool.Decides.{nat_tests}
use Rattle.engine_text.specs.declared.exec.Exec.{Exec}
use Rattle.engine_text.specs.declared.log.OwnedLog.{OwnedLog}
use Rattle.engine_text.specs.Lists.{remove_first}
use Rattle.container_table.proofs.PlacedLemmas.{all_found, all_removed}
use Rattle.exec_table.proofs.RowLemmas.{exec_here, no_exec}
use Rattle.exec_table.specs.Execs.{exec_numbered, execs_of}
use Rattle.exec_table.specs.ExecsInside.{by_row, execs_in, output_in, outputs_in}
use Rattle.exec_table.specs.declared.row.Row.{Row}

-- ---- rows without one

pub sorted_less : (p : Row → Bool) (xs : List Row) → IsStrictlySortedBy by_row xs → IsStrictlySortedBy by_row (remove_first p xs)
unfolding IsStrictlySortedBy
sorted_less p [] sorted = tt
sorted_less p (x ∷ xs) sorted = by_test (p x) (sorted_less p xs sorted.1)
  where
    by_test : (b : Bool) → IsStrictlySortedBy by_row (remove_first p xs) → IsStrictlySortedBy by_row (if b then xs else x ∷ remove_first p xs)
    by_test true rest = sorted.1
    by_test false rest = (all_removed (λ y. by_row x y ≡ Less) p xs sorted.0, rest)

pub execs_less : (n : ℕ) (rows : List Row) → execs_in (remove_first (λ (r : Row). eqb r.exec.number n) rows) ≡ remove_first (λ (x : Exec). eqb x.number n) (execs_in rows)
execs_less n [] = refl
execs_less n (r ∷ rs) = go (eqb r.exec.number n) (execs_less n rs)
  where
    go : (b : Bool) → execs_in (remove_first (λ (r : Row). eqb r.exec.number n) rs) ≡ remove_first (λ (x : Exec). eqb x.number n) (execs_in rs)
        → execs_in (if b then rs else r ∷ remove_first (λ (r : Row). eqb r.exec.number n) rs) ≡ (if b then execs_in rs else r.exec ∷ remove_first (λ (x : Exec). eqb x.number n) (execs_in rs))
    go true more = refl
    go false more = ap (λ l. r.exec ∷ l) more

-- ---- the first of a container

pub record HasGone (c n : ℕ) (rows : List Row) : Type 0 where
  pub row : Row
  pub found : find (λ (r : Row). eqb r.exec.number n) rows ≡ Some row
  pub stay : filter (λ (r : Row). not (eqb r.exec.container c)) (remove_first (λ (r : Row). eqb r.exec.number n) rows) ≡ filter (λ (r : Row). not (eqb r.exec.container c)) rows
  pub go : filter (λ (r : Row). eqb r.exec.container c) rows ≡ row ∷ filter (λ (r : Row). eqb r.exec.container c) (remove_first (λ (r : Row). eqb r.exec.number n) rows)

passes : (n : ℕ) (rows : List Row) (r : Row) → find (λ (r : Row). eqb r.exec.number n) rows ≡ Some r → eqb r.exec.number n ≡ true
passes n [] r e = absurd (cc)
passes n (x ∷ xs) r e = go (eqb x.exec.number n) refl e (passes n xs r)
  where
    go : (b : Bool) → eqb x.exec.number n ≡ b → (if b then Some x else find (λ (r : Row). eqb r.exec.number n) xs) ≡ Some r
        → (find (λ (r : Row). eqb r.exec.number n) xs ≡ Some r → eqb r.exec.number n ≡ true) → eqb r.exec.number n ≡ true
    go true f e more = let is : x ≡ r = cc in subst (λ (s : Row). eqb s.exec.number n ≡ true) is f
    go false f e more = more e

below : (a b n : ℕ) → nat_cmp a b ≡ Less → eqb b n ≡ true → eqb a n ≡ false
below a b n e f = grind (arith, nat_tests, e, f)

own_number : (a n : ℕ) → a ≡ n → eqb a n ≡ true
own_number a n e = grind (arith, nat_tests, e)

pub first_gone : (c n : ℕ) (rows : List Row) (x : Exec) (rest : List Exec) → IsStrictlySortedBy by_row rows → execs_of c (execs_in rows) ≡ x ∷ rest → x.number ≡ n → HasGone c n rows
unfolding IsStrictlySortedBy
first_gone c n [] x rest sorted e is = absurd (cc)
first_gone c n (r ∷ rs) x rest sorted e is = go (eqb r.exec.container c) refl e (λ e. first_gone c n rs x rest sorted.1 e is)
  where
    go : (b : Bool) → eqb r.exec.container c ≡ b → (if b then r.exec ∷ execs_of c (execs_in rs) else execs_of c (execs_in rs)) ≡ x ∷ rest → (execs_of c (execs_in rs) ≡ x ∷ rest → HasGone c n rs) → HasGone c n (r ∷ rs)
    go true f e later =
        let same : r.exec ≡ x = cc in
        let hit : eqb r.exec.number n ≡ true = own_number r.exec.number n (ap (λ (y : Exec). y.number) same ∙ is) in
        record { row = r; found = rw hit refl; stay = rw (hit, f) refl; go = rw (hit, f) refl }
    go false f e later =
        let more = later e in
        let up : nat_cmp r.exec.number more.row.exec.number ≡ Less = all_found (λ (s : Row). by_row r s ≡ Less) (λ (r : Row). eqb r.exec.number n) rs more.row sorted.0 more.found in
        let miss : eqb r.exec.number n ≡ false = below r.exec.number more.row.exec.number n up (passes n rs more.row more.found) in
        record { row = more.row; found = rw miss more.found; stay = rw (miss, f) (ap (λ l. r ∷ l) more.stay); go = rw (miss, f) more.go }

-- an output that went over is the first of those to go
pub gone_over : (into more : List OwnedLog) (r : Row) (old new : List Row) → more ≡ into ++ output_in r ∷ [] → old ≡ r ∷ new → more ++ outputs_in new ≡ into ++ outputs_in old
gone_over into more r old new e f =
    ap (λ (l : List OwnedLog). l ++ outputs_in new) e ∙ append_assoc into (output_in r ∷ []) (outputs_in new) ∙ ap (λ (l : List Row). into ++ outputs_in l) (sym f)

-- ---- found by its number

pub is_placed : (n : ℕ) (rows : List Row) (x : Exec) → exec_numbered n (execs_in rows) ≡ Some x → IsSome (position (λ (r : Row). eqb r.exec.number n) rows)
is_placed n rows x found = go (position (λ (r : Row). eqb r.exec.number n) rows) refl
  where
    go : (o : Option ℕ) → position (λ (r : Row). eqb r.exec.number n) rows ≡ o → IsSome o
    go (Some i) e = refl
    go None e = let none : None ≡ Some x = sym (no_exec n rows e) ∙ found in absurd (cc)

pub numbered_at : (n : ℕ) (rows : List Row) (x : Exec) (i : ℕ) (r : Row) → exec_numbered n (execs_in rows) ≡ Some x → position (λ (r : Row). eqb r.exec.number n) rows ≡ Some i → r ≡ get_or rows i r
    → x ≡ r.exec
numbered_at n rows x i r found at read = same_Some x r.exec (sym found ∙ exec_here n rows i r at read)

-- where none is of the container, all stay
pub all_stay : (c : ℕ) (rows : List Row) → length (filter (λ (r : Row). eqb r.exec.container c) rows) ≡ 0 → filter (λ (r : Row). not (eqb r.exec.container c)) rows ≡ rows
all_stay c [] e = refl
all_stay c (r ∷ rs) e = go (eqb r.exec.container c) e (all_stay c rs)
  where
    go : (b : Bool) → length (if b then r ∷ filter (λ (r : Row). eqb r.exec.container c) rs else filter (λ (r : Row). eqb r.exec.container c) rs) ≡ 0
        → (length (filter (λ (r : Row). eqb r.exec.container c) rs) ≡ 0 → filter (λ (r : Row). not (eqb r.exec.container c)) rs ≡ rs)
        → (if not b then r ∷ filter (λ (r : Row). not (eqb r.exec.container c)) rs else filter (λ (r : Row). not (eqb r.exec.container c)) rs) ≡ r ∷ rs
    go true e more = absurd (omega (arith, e))
    go false e more = ap (λ l. r ∷ l) (more e)
