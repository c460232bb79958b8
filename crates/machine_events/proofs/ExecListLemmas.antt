-- The numbers of a container's execs, one after the other.
use Rattle.std.proofs.Common.{◌≡◌, ℕ, ◌≤◌, Bool, true, false, List, [], ◌∷◌, ◌++◌, length, refl, ap, sym, ◌∙◌, map, filter, eqb, if◌then◌else◌, append_assoc, arith}
use Rattle.engine_text.specs.declared.exec.Exec.{Exec}
use Rattle.proc_kernel.specs.Tables.{Entry}
use Rattle.machine_events.specs.Running.{is_alive, is_running}

-- those of a container that run are those of its own whose processes live
pub running_of : (n : ℕ) (processes : List Entry) (xs : List Exec) → filter (is_running n processes) xs ≡ filter (is_alive processes) (filter (λ x. eqb x.container n) xs)
running_of n processes [] = refl
running_of n processes (x ∷ xs) = go (eqb x.container n) (is_alive processes x) refl refl (running_of n processes xs)
  where
    go : (b c : Bool) → eqb x.container n ≡ b → is_alive processes x ≡ c → filter (is_running n processes) xs ≡ filter (is_alive processes) (filter (λ x. eqb x.container n) xs)
        → filter (is_running n processes) (x ∷ xs) ≡ filter (is_alive processes) (if b then x ∷ filter (λ x. eqb x.container n) xs else filter (λ x. eqb x.container n) xs)
    go true true e f more = rw (e, f) (ap (λ l. x ∷ l) more)
    go true false e f more = rw (e, f) more
    go false c e f more = rw e more

-- a container's own are no more than all
pub few_of : (n : ℕ) (xs : List Exec) → length (filter (λ (x : Exec). eqb x.container n) xs) ≤ length xs
few_of n [] = omega arith
few_of n (x ∷ xs) = go (eqb x.container n) (few_of n xs)
  where
    go : (b : Bool) → length (filter (λ (x : Exec). eqb x.container n) xs) ≤ length xs → length (if b then x ∷ filter (λ (x : Exec). eqb x.container n) xs else filter (λ (x : Exec). eqb x.container n) xs) ≤ length (x ∷ xs)
    go true more = omega (arith, more)
    go false more = omega (arith, more)

-- a number more, of one that comes first among those to come
pub one_listed : (more before : List ℕ) (x : Exec) (rest next : List Exec) → more ≡ before ++ x.number ∷ [] → rest ≡ x ∷ next
    → more ++ map (λ (x : Exec). x.number) next ≡ before ++ map (λ (x : Exec). x.number) rest
one_listed more before x rest next e f =
    ap (λ (l : List ℕ). l ++ map (λ (x : Exec). x.number) next) e ∙ append_assoc before (x.number ∷ []) (map (λ (x : Exec). x.number) next)
    ∙ ap (λ (l : List Exec). before ++ map (λ (x : Exec). x.number) l) (sym f)
