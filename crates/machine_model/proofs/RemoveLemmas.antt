-- Items that are changed or removed at the place of the first that passes.
use Rattle.std.proofs.Common.{◌≡◌, ℕ, zero, suc, ◌<◌, ◌≤◌, Bool, true, false, List, [], ◌∷◌, ◌++◌, Option, Some, None, refl, ap, sym, ◌∙◌, arith, find, map, filter, length, get_or, slice_set, position, nat_lt, take, if◌then◌else◌, ◌+◌}
use Rattle.std.specs.List.{position_or_len, remove}
use Rattle.std.proofs.Math.ListN.{set}
use Rattle.std.proofs.lemmas.List.{take_more}
use Rattle.std.proofs.lemmas.List.Quantifiers.{position-Some}
use Rattle.std.proofs.lemmas.List.Folds.{find_at}
use Rattle.std.proofs.lemmas.Option.{slice_get_past}
use Rattle.std.proofs.lemmas.Bool.Decides.{nat_tests}
use Rattle.container_table.specs.Lists.{update_first, remove_first}
use Rattle.machine_model.proofs.UpdateLemmas.{set_updated, update_nowhere}

removed_at : {A : Type 0} (p : A → Bool) (d : A) (xs : List A) (i : ℕ) → i < length xs → p (get_or xs i d) ≡ true
    → ((k : ℕ) → k < i → p (get_or xs k d) ≡ false) → remove xs i ≡ remove_first p xs
removed_at p d [] i low here before = absurd (omega arith)
removed_at p d (x ∷ xs) zero low here before = rw here
removed_at p d (x ∷ xs) (suc i) low here before =
    let first : p x ≡ false = before 0 (omega arith) in
    rw first (ap (λ l. x ∷ l) (removed_at p d xs i (omega arith) here (λ k b. before (suc k) (omega arith))))

-- the first that passes is removed
pub removed : {A : Type 0} (p : A → Bool) (d : A) (xs : List A) (i : ℕ) → position p xs ≡ Some i → remove xs i ≡ remove_first p xs
removed p d xs i e = let q = position-Some p xs i d e in removed_at p d xs i q.0 q.1 q.2

none_cons : {A : Type 0} (b : Bool) (x : A) (r : Option A) → (if b then Some x else r) ≡ None → (b ≡ false) × (r ≡ None)
none_cons true x r e = absurd (cc)
none_cons false x r e = (refl, e)

past_end : (b : Bool) (i : ℕ) → (if b then Some i else None) ≡ None → b ≡ false
past_end true i e = absurd (cc)
past_end false i e = refl

pub removed_none : {A : Type 0} (p : A → Bool) (xs : List A) → find p xs ≡ None → xs ≡ remove_first p xs
removed_none p [] e = refl
removed_none p (x ∷ xs) e = let q = none_cons (p x) x (find p xs) e in rw q.0 (ap (λ l. x ∷ l) (removed_none p xs q.1))

pub found_nowhere : {A : Type 0} (p : A → Bool) (xs : List A) → position p xs ≡ None → find p xs ≡ None
found_nowhere p xs e =
    let off : nat_lt (position_or_len p xs) (length xs) ≡ false = past_end (nat_lt (position_or_len p xs) (length xs)) (position_or_len p xs) e in
    let past : length xs ≤ position_or_len p xs = grind (arith, nat_tests, off) in
    find_at p xs ∙ slice_get_past xs (position_or_len p xs) past

-- where none passes nothing is removed
pub removed_nowhere : {A : Type 0} (p : A → Bool) (xs : List A) → position p xs ≡ None → xs ≡ remove_first p xs
removed_nowhere p xs e = removed_none p xs (found_nowhere p xs e)

map_id : {A : Type 0} (xs : List A) → map (λ x. x) xs ≡ xs
map_id [] = refl
map_id (x ∷ xs) = ap (λ l. x ∷ l) (map_id xs)

-- the first that passes is changed, in the list itself
pub changed : {A : Type 0} (p : A → Bool) (f : A → A) (d y : A) (xs : List A) (i : ℕ) → position p xs ≡ Some i → y ≡ f (get_or xs i d) → slice_set xs i y ≡ update_first p f xs
changed p f d y xs i e h =
    sym (map_id (slice_set xs i y)) ∙ (set_updated p f (λ x. x) d y xs i e h ∙ ap (update_first p f) (map_id xs))

pub changed_nowhere : {A : Type 0} (p : A → Bool) (f : A → A) (xs : List A) → position p xs ≡ None → xs ≡ update_first p f xs
changed_nowhere p f xs e = sym (map_id xs) ∙ (update_nowhere p f (λ x. x) xs e ∙ ap (update_first p f) (map_id xs))

-- one item further
pub filter_end : {A : Type 0} (p : A → Bool) (b : Bool) (xs : List A) (x : A) → p x ≡ b → filter p (xs ++ x ∷ []) ≡ (if b then filter p xs ++ x ∷ [] else filter p xs)
filter_end p true [] x e = rw e
filter_end p false [] x e = rw e
filter_end p true (y ∷ ys) x e = either (p y) y (filter p (ys ++ x ∷ [])) (filter p ys) x (filter_end p true ys x e)
  where
    either : {A : Type 0} (b : Bool) (y : A) (xs ys : List A) (x : A) → xs ≡ ys ++ x ∷ [] → (if b then y ∷ xs else xs) ≡ (if b then y ∷ ys else ys) ++ x ∷ []
    either true y xs ys x e = ap (λ l. y ∷ l) e
    either false y xs ys x e = e
filter_end p false (y ∷ ys) x e = ap (λ l. if p y then y ∷ l else l) (filter_end p false ys x e)

pub map_end : {A B : Type 0} (f : A → B) (xs : List A) (x : A) → map f (xs ++ x ∷ []) ≡ map f xs ++ f x ∷ []
map_end f [] x = refl
map_end f (y ∷ ys) x = ap (λ l. f y ∷ l) (map_end f ys x)

pub listed_more : {A B : Type 0} (f : A → B) (p : A → Bool) (xs : List A) (i : ℕ) (x : A) → i < length xs → x ≡ get_or xs i x → p x ≡ true
    → map f (filter p (take (i + 1) xs)) ≡ map f (filter p (take i xs)) ++ f x ∷ []
listed_more f p xs i x low at e =
    ap (λ l. map f (filter p l)) (take_more xs i x low ∙ ap (λ y. take i xs ++ y ∷ []) (sym at))
    ∙ (ap (map f) (filter_end p true (take i xs) x e) ∙ map_end f (filter p (take i xs)) x)

pub listed_same : {A B : Type 0} (f : A → B) (p : A → Bool) (xs : List A) (i : ℕ) (x : A) → i < length xs → x ≡ get_or xs i x → p x ≡ false
    → map f (filter p (take (i + 1) xs)) ≡ map f (filter p (take i xs))
listed_same f p xs i x low at e =
    ap (λ l. map f (filter p l)) (take_more xs i x low ∙ ap (λ y. take i xs ++ y ∷ []) (sym at))
    ∙ ap (map f) (filter_end p false (take i xs) x e)

-- ---- among what the items mean

removed_either : {A B : Type 0} (f : A → B) (b : Bool) (x : A) (xs ys : List A) (zs : List B) → map f ys ≡ zs → map f (if b then xs else x ∷ ys) ≡ (if b then map f xs else f x ∷ zs)
removed_either f true x xs ys zs e = refl
removed_either f false x xs ys zs e = ap (λ l. f x ∷ l) e

pub removed_mapped : {A B : Type 0} (f : A → B) (p : B → Bool) (xs : List A) → map f (remove_first (λ x. p (f x)) xs) ≡ remove_first p (map f xs)
removed_mapped f p [] = refl
removed_mapped f p (x ∷ xs) = removed_either f (p (f x)) x xs (remove_first (λ y. p (f y)) xs) (remove_first p (map f xs)) (removed_mapped f p xs)

found_here : {A : Type 0} (p : A → Bool) (d : A) (xs : List A) (i : ℕ) → i < length xs → p (get_or xs i d) ≡ true
    → ((k : ℕ) → k < i → p (get_or xs k d) ≡ false) → find p xs ≡ Some (get_or xs i d)
found_here p d [] i low here before = absurd (omega arith)
found_here p d (x ∷ xs) zero low here before = ap (λ b. if b then Some x else find p xs) here
found_here p d (x ∷ xs) (suc i) low here before =
    let first : p x ≡ false = before 0 (omega arith) in
    ap (λ b. if b then Some x else find p xs) first ∙ found_here p d xs i (omega arith) here (λ k b. before (suc k) (omega arith))

-- the item at the place of the first that passes
pub found_by : {A : Type 0} (p : A → Bool) (d : A) (xs : List A) (i : ℕ) → position p xs ≡ Some i → find p xs ≡ Some (get_or xs i d)
found_by p d xs i e = let q = position-Some p xs i d e in found_here p d xs i q.0 q.1 q.2
