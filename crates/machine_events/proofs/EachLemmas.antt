-- An effect of each item of a list, one after the other.
use Rattle.std.specs.Option.{is_some}
use Rattle.std.proofs.Common.{◌≡◌, ℕ, ◌+◌, ◌==◌, ◌&&◌, ◌<◌, Bool, true, false, List, [], ◌∷◌, ◌++◌, Option, Some, None, refl, ap, sym, ◌∙◌, map, filter, length, get_or, take, if◌then◌else◌, ◌≤◌, subst, arith, zero, suc}
use Rattle.std.proofs.lemmas.List.{take_more}
use Rattle.engine_text.specs.declared.exec.Exec.{Exec}
use Rattle.engine_text.specs.declared.owner.Owner.{Owner}
use Rattle.proc_kernel.specs.Processes.{Process}
use Rattle.proc_kernel.specs.Tables.{process_of, is_there}
use Rattle.machine_model.specs.State.{State, running_execs}
use Rattle.machine_model.specs.Chain.{Effect, each}
use Rattle.machine_events.specs.Running.{is_running}

pub each_end : {A : Type 0} (f : A → State → Effect) (xs : List A) (x : A) (s : State) → (each f (xs ++ x ∷ []) s).state ≡ (f x (each f xs s).state).state
each_end f [] x s = refl
each_end f (y ∷ ys) x s = each_end f ys x (f y s).state

pub each_mapped : {A B : Type 0} (f : B → State → Effect) (g : A → B) (xs : List A) (s : State) → (each f (map g xs) s).state ≡ (each (λ x. f (g x)) xs s).state
each_mapped f g [] s = refl
each_mapped f g (x ∷ xs) s = each_mapped f g xs (f (g x) s).state

-- one item further
pub each_more : (f : ℕ → State → Effect) (xs : List ℕ) (i : ℕ) (s : State) → i < length xs → (each f (take (i + 1) xs) s).state ≡ (f (get_or xs i 0) (each f (take i xs) s).state).state
each_more f xs i s low = ap (λ l. (each f l s).state) (take_more xs i 0 low) ∙ each_end f (take i xs) (get_or xs i 0) s

same_there : (o : Option Process) → is_some o ≡ is_there o
same_there None = refl
same_there (Some p) = refl

both_either : (p : Exec → Bool) (b : Bool) (x : Exec) (xs ys : List Exec) → filter p xs ≡ ys → filter p (if b then x ∷ xs else xs) ≡ (if b && p x then x ∷ ys else ys)
both_either p true x xs ys e = ap (λ l. if p x then x ∷ l else l) e
both_either p false x xs ys e = e

both : (p q : Exec → Bool) (xs : List Exec) → filter p (filter q xs) ≡ filter (λ x. q x && p x) xs
both p q [] = refl
both p q (x ∷ xs) = both_either p (q x) x (filter q xs) (filter (λ y. q y && p y) xs) (both p q xs)

same_either : (b c : Bool) (x : Exec) (xs ys : List Exec) → b ≡ c → xs ≡ ys → (if b then x ∷ xs else xs) ≡ (if c then x ∷ ys else ys)
same_either b c x xs ys e h = cc

pub same_filter : (p q : Exec → Bool) → ((x : Exec) → p x ≡ q x) → (xs : List Exec) → filter p xs ≡ filter q xs
same_filter p q same [] = refl
same_filter p q same (x ∷ xs) = same_either (p x) (q x) x (filter p xs) (filter q xs) (same x) (same_filter p q same xs)

-- the running execs, found in one go
pub running_is : (n : ℕ) (s : State) → filter (is_running n s.processes) s.execs ≡ running_execs n s
running_is n s =
    same_filter (is_running n s.processes) (λ x. (x.container == n) && is_some (process_of (Owner.Exec x.number) s.processes))
    (λ x. ap (λ b. (x.container == n) && b) (sym (same_there (process_of (Owner.Exec x.number) s.processes)))) s.execs
    ∙ sym (both (λ x. is_some (process_of (Owner.Exec x.number) s.processes)) (λ x. x.container == n) s.execs)

take_past : {A : Type 0} (xs : List A) (i : ℕ) → length xs ≤ i → take i xs ≡ xs
take_past [] zero far = refl
take_past [] (suc i) far = refl
take_past (x ∷ xs) zero far = absurd (omega arith)
take_past (x ∷ xs) (suc i) far = ap (λ l. x ∷ l) (take_past xs i (omega arith))

-- a loop over noted numbers: one further, and at its end
pub loop_more : (f : ℕ → State → Effect) (xs ys : List ℕ) (i x : ℕ) (s a b : State) → a ≡ (each f (take i xs) s).state → ys ≡ xs → x ≡ get_or ys i 0 → i < length ys
    → b ≡ (f x a).state → b ≡ (each f (take (i + 1) xs) s).state
loop_more f xs ys i x s a b before same at low after =
    let low2 : i < length xs = subst (λ (l : List ℕ). i < length l) same low in
    let at2 : x ≡ get_or xs i 0 = at ∙ ap (λ (l : List ℕ). get_or l i 0) same in
    after ∙ (ap (λ k. (f k a).state) at2 ∙ (ap (λ (z : State). (f (get_or xs i 0) z).state) before ∙ sym (each_more f xs i s low2)))

pub loop_end : (f : ℕ → State → Effect) (n : ℕ) (xs : List ℕ) (i : ℕ) (s a b : State) → length xs ≤ i → xs ≡ map (λ x. x.number) (running_execs n s) → a ≡ s
    → b ≡ (each f (take i xs) a).state → b ≡ (each (λ (x : Exec). f x.number) (running_execs n s) s).state
loop_end f n xs i s a b far noted same after =
    after ∙ (ap (λ l. (each f l a).state) (take_past xs i far ∙ noted) ∙ (ap (λ (z : State). (each f (map (λ (x : Exec). x.number) (running_execs n s)) z).state) same
    ∙ each_mapped f (λ (x : Exec). x.number) (running_execs n s) s))
