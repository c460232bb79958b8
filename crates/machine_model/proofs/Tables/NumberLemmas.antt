-- Items found by their numbers, in a list that is changed.
use Rattle.std.proofs.Common.{◌≡◌, ◌≢◌, ℕ, ◌==◌, ◌||◌, Bool, true, false, List, [], ◌∷◌, ◌++◌, Option, Some, None, find, filter, map, if◌then◌else◌, refl, ap, sym, ◌∙◌, subst}
use Rattle.std.proofs.lemmas.Bool.{eqb-true, eq-eqb}
use Rattle.std.specs.Prelude.{option_map}
use Rattle.std.specs.List.{AllByRecursion, list_any}
use Rattle.container_table.specs.Lists.{update_first, remove_first}
use Rattle.machine_model.specs.Consistency.{AreDistinct}
use Rattle.machine_model.proofs.ListLemmas.{found_nowhere, all_weaken, all_of_mapped}
use Rattle.machine_model.proofs.ChangeLemmas.{all_filtered}
use Rattle.machine_model.proofs.Fold.RowLemmas.{same_some}
use Rattle.engine_text.specs.declared.container.Container.{Container}

-- a test that fails
pub not_by : (b : Bool) (m n : ℕ) → (m == n) ≡ b → m ≢ n → b ≡ false
not_by true m n e other = absurd (other (eqb-true m n e))
not_by false m n e other = refl

pub is_not : (m n : ℕ) → m ≢ n → (m == n) ≡ false
is_not m n other = not_by (m == n) m n refl other

-- ---- a change

updated_cons : {A : Type 0} (p : A → Bool) (f : A → A) (b : Bool) (x : A) (xs new : List A) → p x ≡ b → p (f x) ≡ b → find p new ≡ option_map f (find p xs)
    → find p (if b then f x ∷ xs else x ∷ new) ≡ option_map f (find p (x ∷ xs))
updated_cons p f true x xs new e g more = ap (λ t. if t then Some (f x) else find p xs) g ∙ sym (ap (λ t. option_map f (if t then Some x else find p xs)) e)
updated_cons p f false x xs new e g more =
    ap (λ t. if t then Some x else find p new) e ∙ (more ∙ sym (ap (λ t. option_map f (if t then Some x else find p xs)) e))

pub find_updated : {A : Type 0} (key : A → ℕ) (n : ℕ) (f : A → A) → ((x : A) → key (f x) ≡ key x) → (xs : List A)
    → find (λ x. key x == n) (update_first (λ x. key x == n) f xs) ≡ option_map f (find (λ x. key x == n) xs)
find_updated key n f same [] = refl
find_updated key n f same (x ∷ xs) =
    updated_cons (λ x. key x == n) f (key x == n) x xs (update_first (λ x. key x == n) f xs) refl (ap (λ k. k == n) (same x)) (find_updated key n f same xs)

others_cons : {A : Type 0} (p : A → Bool) (f : A → A) (b : Bool) (x : A) (xs new : List A) → (b ≡ true → p x ≡ false) → (b ≡ true → p (f x) ≡ false) → find p new ≡ find p xs
    → find p (if b then f x ∷ xs else x ∷ new) ≡ find p (x ∷ xs)
others_cons p f true x xs new e g more = ap (λ t. if t then Some (f x) else find p xs) (g refl) ∙ sym (ap (λ t. if t then Some x else find p xs) (e refl))
others_cons p f false x xs new e g more = ap (λ r. if p x then Some x else r) more

pub find_other : {A : Type 0} (key : A → ℕ) (n m : ℕ) (f : A → A) → ((x : A) → key (f x) ≡ key x) → n ≢ m → (xs : List A)
    → find (λ x. key x == m) (update_first (λ x. key x == n) f xs) ≡ find (λ x. key x == m) xs
find_other key n m f same other [] = refl
find_other key n m f same other (x ∷ xs) =
    others_cons (λ x. key x == m) f (key x == n) x xs (update_first (λ x. key x == n) f xs)
    (λ e. is_not (key x) m (λ is. other (sym (eqb-true (key x) n e) ∙ is)))
    (λ e. is_not (key (f x)) m (λ is. other (sym (eqb-true (key x) n e) ∙ (sym (same x) ∙ is))))
    (find_other key n m f same other xs)

-- ---- one item more

more_cons : {A : Type 0} (b : Bool) (x : A) (r t : Option A) → r ≡ t → (if b then Some x else r) ≡ (if b then Some x else t)
more_cons b x r t e = ap (λ o. if b then Some x else o) e

pub find_more_other : {A : Type 0} (key : A → ℕ) (m : ℕ) (new : A) → key new ≢ m → (xs : List A) → find (λ x. key x == m) (xs ++ new ∷ []) ≡ find (λ x. key x == m) xs
find_more_other key m new other [] = ap (λ b. if b then Some new else None) (is_not (key new) m other)
find_more_other key m new other (x ∷ xs) = more_cons (key x == m) x (find (λ x. key x == m) (xs ++ new ∷ [])) (find (λ x. key x == m) xs) (find_more_other key m new other xs)

none_rest : {A : Type 0} (b : Bool) (x : A) (r : Option A) → (if b then Some x else r) ≡ None → (b ≡ false) × (r ≡ None)
none_rest true x r h = absurd (cc)
none_rest false x r h = (refl, h)

pub find_more_itself : {A : Type 0} (key : A → ℕ) (new : A) (xs : List A) → find (λ x. key x == key new) xs ≡ None → find (λ x. key x == key new) (xs ++ new ∷ []) ≡ Some new
find_more_itself key new [] e = ap (λ b. if b then Some new else None) (eq-eqb (key new) (key new) refl)
find_more_itself key new (x ∷ xs) e =
    let one = none_rest (key x == key new) x (find (λ x. key x == key new) xs) e in
    ap (λ t. if t then Some x else find (λ x. key x == key new) (xs ++ new ∷ [])) one.0 ∙ find_more_itself key new xs one.1

-- ---- a filter

abbrev pub keep_if : {A : Type 0} → (A → Bool) → Option A → Option A
keep_if q None = None
keep_if q (Some x) = if q x then Some x else None

filtered_hit : {A : Type 0} (p q : A → Bool) (t : Bool) (x : A) (rest : List A) → p x ≡ true → find p rest ≡ None → find p (if t then x ∷ rest else rest) ≡ (if t then Some x else None)
filtered_hit p q true x rest e none = ap (λ b. if b then Some x else find p rest) e
filtered_hit p q false x rest e none = none

filtered_miss : {A : Type 0} (p : A → Bool) (t : Bool) (x : A) (rest : List A) → p x ≡ false → find p (if t then x ∷ rest else rest) ≡ find p rest
filtered_miss p true x rest e = ap (λ b. if b then Some x else find p rest) e
filtered_miss p false x rest e = refl

filtered_cons : {A : Type 0} (key : A → ℕ) (q : A → Bool) (m : ℕ) (b : Bool) (x : A) (xs : List A) → (key x == m) ≡ b → AllByRecursion (λ k. key x ≢ k) (map key xs)
    → find (λ x. key x == m) (filter q xs) ≡ keep_if q (find (λ x. key x == m) xs)
    → find (λ x. key x == m) (if q x then x ∷ filter q xs else filter q xs) ≡ keep_if q (if b then Some x else find (λ x. key x == m) xs)
filtered_cons key q m true x xs e differ more =
    let is : key x ≡ m = eqb-true (key x) m e in
    let away = all_weaken (λ y. key x ≢ key y) (λ y. (key y == m) ≡ false) (λ y other. is_not (key y) m (λ same. other (is ∙ sym same))) xs (all_of_mapped (λ k. key x ≢ k) key xs differ) in
    filtered_hit (λ x. key x == m) q (q x) x (filter q xs) e (found_nowhere (λ x. key x == m) (filter q xs) (all_filtered (λ y. (key y == m) ≡ false) q xs away))
filtered_cons key q m false x xs e differ more = filtered_miss (λ x. key x == m) (q x) x (filter q xs) e ∙ more

pub find_filtered : {A : Type 0} (key : A → ℕ) (q : A → Bool) (m : ℕ) (xs : List A) → AreDistinct (map key xs)
    → find (λ x. key x == m) (filter q xs) ≡ keep_if q (find (λ x. key x == m) xs)
find_filtered key q m [] h = refl
find_filtered key q m (x ∷ xs) h = filtered_cons key q m (key x == m) x xs refl h.0 (find_filtered key q m xs h.1)

-- ---- what is found

kept_any : {A : Type 0} (p : A → Bool) (t : Bool) (x : A) (rest : List A) → list_any p rest ≡ true → list_any p (if t then x ∷ rest else rest) ≡ true
kept_any p true x rest h = any_by (p x) h
  where
    any_by : (b : Bool) → list_any p rest ≡ true → (b || list_any p rest) ≡ true
    any_by true h = refl
    any_by false h = h
kept_any p false x rest h = h

same_item : {A : Type 0} (x y : A) → Some x ≡ Some y → x ≡ y
same_item x y e = same_some x y e

hit_any : {A : Type 0} (p : A → Bool) (t : Bool) (x : A) (rest : List A) → p x ≡ true → t ≡ true → list_any p (if t then x ∷ rest else rest) ≡ true
hit_any p true x rest e h = ap (λ b. b || list_any p rest) e
hit_any p false x rest e h = absurd (cc)

any_cons : {A : Type 0} (p q : A → Bool) (b : Bool) (x y : A) (xs : List A) → p x ≡ b → (if b then Some x else find p xs) ≡ Some y → q y ≡ true → (find p xs ≡ Some y → list_any p (filter q xs) ≡ true)
    → list_any p (if q x then x ∷ filter q xs else filter q xs) ≡ true
any_cons p q true x y xs e found holds more = hit_any p (q x) x (filter q xs) e (ap q (same_item x y found) ∙ holds)
any_cons p q false x y xs e found holds more = kept_any p (q x) x (filter q xs) (more found)

-- what is found and passes is among those that pass
pub found_any : {A : Type 0} (p q : A → Bool) (y : A) (xs : List A) → find p xs ≡ Some y → q y ≡ true → list_any p (filter q xs) ≡ true
found_any p q y [] found holds = absurd (cc)
found_any p q y (x ∷ xs) found holds = any_cons p q (p x) x y xs refl found holds (λ more. found_any p q y xs more holds)

-- ---- a removal

removed_cons : (b pb : Bool) (n m : ℕ) (x : Container) (xs left : List Container) → (x.number == n) ≡ b → (x.number == m) ≡ pb → n ≢ m
    → find (λ c. c.number == m) left ≡ find (λ c. c.number == m) xs
    → find (λ c. c.number == m) (if b then xs else x ∷ left) ≡ (if pb then Some x else find (λ c. c.number == m) xs)
removed_cons true true n m x xs left eb ep other more = absurd (other (sym (eqb-true x.number n eb) ∙ eqb-true x.number m ep))
removed_cons true false n m x xs left eb ep other more = refl
removed_cons false true n m x xs left eb ep other more = ap (λ b. if b then Some x else find (λ c. c.number == m) left) ep
removed_cons false false n m x xs left eb ep other more = ap (λ b. if b then Some x else find (λ c. c.number == m) left) ep ∙ more

-- another container stands as it did
pub other_stands : (n m : ℕ) (cs : List Container) → n ≢ m → find (λ c. c.number == m) (remove_first (λ c. c.number == n) cs) ≡ find (λ c. c.number == m) cs
other_stands n m [] other = refl
other_stands n m (x ∷ xs) other =
    removed_cons (x.number == n) (x.number == m) n m x xs (remove_first (λ c. c.number == n) xs) refl refl other (other_stands n m xs other)

nobody_by : (b : Bool) (m n : ℕ) → (m == n) ≡ b → n ≢ m → b ≡ false
nobody_by true m n e other = absurd (other (sym (eqb-true m n e)))
nobody_by false m n e other = refl

none_has : (n : ℕ) (cs : List Container) → AllByRecursion (λ k. n ≢ k) (map (λ c. c.number) cs) → find (λ c. c.number == n) cs ≡ None
none_has n [] h = refl
none_has n (x ∷ xs) h =
    ap (λ b. if b then Some x else find (λ c. c.number == n) xs) (nobody_by (x.number == n) x.number n refl h.0) ∙ none_has n xs h.1

itself_cons : (b : Bool) (n : ℕ) (x : Container) (xs left : List Container) → (x.number == n) ≡ b → AllByRecursion (λ k. x.number ≢ k) (map (λ c. c.number) xs)
    → find (λ c. c.number == n) left ≡ None → find (λ c. c.number == n) (if b then xs else x ∷ left) ≡ None
itself_cons true n x xs left e other more = none_has n xs (subst (λ k. AllByRecursion (λ j. k ≢ j) (map (λ c. c.number) xs)) (eqb-true x.number n e) other)
itself_cons false n x xs left e other more = ap (λ b. if b then Some x else find (λ c. c.number == n) left) e ∙ more

-- the container is gone
pub itself_gone : (n : ℕ) (cs : List Container) → AreDistinct (map (λ c. c.number) cs) → find (λ c. c.number == n) (remove_first (λ c. c.number == n) cs) ≡ None
itself_gone n [] h = refl
itself_gone n (x ∷ xs) h = itself_cons (x.number == n) n x xs (remove_first (λ c. c.number == n) xs) refl h.0 (itself_gone n xs h.1)
