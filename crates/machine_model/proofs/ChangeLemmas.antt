-- Lists of which the first that passes is changed or gone, or which are filtered: what holds of each, and what differs.
use Rattle.std.proofs.Common.{◌≡◌, ◌≢◌, Bool, true, false, List, [], ◌∷◌, filter, map, if◌then◌else◌, refl, ap}
use Rattle.std.specs.List.{AllByRecursion}
use Rattle.container_table.specs.Lists.{update_first, remove_first}
use Rattle.machine_model.specs.Consistency.{AreDistinct}

map_either : {A B : Type 0} (h : A → B) (b : Bool) (x y : A) (xs ys : List A) → h y ≡ h x → map h ys ≡ map h xs → map h (if b then y ∷ xs else x ∷ ys) ≡ map h (x ∷ xs)
map_either h true x y xs ys e r = ap (λ z. z ∷ map h xs) e
map_either h false x y xs ys e r = ap (λ l. h x ∷ l) r

-- what a change leaves as it is stands as it was
pub map_updated : {A B : Type 0} (h : A → B) (p : A → Bool) (f : A → A) (xs : List A) → ((x : A) → h (f x) ≡ h x) → map h (update_first p f xs) ≡ map h xs
map_updated h p f [] keeps = refl
map_updated h p f (x ∷ xs) keeps = map_either h (p x) x (f x) xs (update_first p f xs) (keeps x) (map_updated h p f xs keeps)

all_either : {A : Type 0} (Q : A → Type 0) (b : Bool) (x y : A) (xs ys : List A) → Q x → Q y → AllByRecursion Q xs → AllByRecursion Q ys → AllByRecursion Q (if b then y ∷ xs else x ∷ ys)
all_either Q true x y xs ys px py pxs pys = (py, pxs)
all_either Q false x y xs ys px py pxs pys = (px, pys)

pub all_updated : {A : Type 0} (Q : A → Type 0) (p : A → Bool) (f : A → A) → ((x : A) → Q x → Q (f x)) → (xs : List A) → AllByRecursion Q xs → AllByRecursion Q (update_first p f xs)
all_updated Q p f makes [] h = tt
all_updated Q p f makes (x ∷ xs) h = all_either Q (p x) x (f x) xs (update_first p f xs) h.0 (makes x h.0) h.1 (all_updated Q p f makes xs h.1)

kept_or : {A : Type 0} (P : A → Type 0) (b : Bool) (x : A) (xs ys : List A) → P x → AllByRecursion P xs → AllByRecursion P ys → AllByRecursion P (if b then xs else x ∷ ys)
kept_or P true x xs ys px pxs pys = pxs
kept_or P false x xs ys px pxs pys = (px, pys)

pub all_removed : {A : Type 0} (P : A → Type 0) (p : A → Bool) (xs : List A) → AllByRecursion P xs → AllByRecursion P (remove_first p xs)
all_removed P p [] h = tt
all_removed P p (x ∷ xs) h = kept_or P (p x) x xs (remove_first p xs) h.0 h.1 (all_removed P p xs h.1)

all_map_by : {A B : Type 0} (P : B → Type 0) (f : A → B) (b : Bool) (x : A) (xs ys : List A) → P (f x) → AllByRecursion P (map f xs) → AllByRecursion P (map f ys)
    → AllByRecursion P (map f (if b then xs else x ∷ ys))
all_map_by P f true x xs ys px pxs pys = pxs
all_map_by P f false x xs ys px pxs pys = (px, pys)

pub all_map_removed : {A B : Type 0} (P : B → Type 0) (f : A → B) (p : A → Bool) (xs : List A) → AllByRecursion P (map f xs) → AllByRecursion P (map f (remove_first p xs))
all_map_removed P f p [] h = tt
all_map_removed P f p (x ∷ xs) h = all_map_by P f (p x) x xs (remove_first p xs) h.0 h.1 (all_map_removed P f p xs h.1)

removed_by : {A B : Type 0} (f : A → B) (b : Bool) (x : A) (xs ys : List A) → AllByRecursion (λ y. f x ≢ y) (map f ys) → AreDistinct (map f xs) → AreDistinct (map f ys)
    → AreDistinct (map f (if b then xs else x ∷ ys))
removed_by f true x xs ys other first second = first
removed_by f false x xs ys other first second = (other, second)

pub distinct_removed : {A B : Type 0} (f : A → B) (p : A → Bool) (xs : List A) → AreDistinct (map f xs) → AreDistinct (map f (remove_first p xs))
distinct_removed f p [] h = tt
distinct_removed f p (x ∷ xs) h =
    removed_by f (p x) x xs (remove_first p xs) (all_map_removed (λ y. f x ≢ y) f p xs h.0) h.1 (distinct_removed f p xs h.1)

filtered_by : {A B : Type 0} (P : B → Type 0) (f : A → B) (b : Bool) (x : A) (ys : List A) → P (f x) → AllByRecursion P (map f ys) → AllByRecursion P (map f (if b then x ∷ ys else ys))
filtered_by P f true x ys px pys = (px, pys)
filtered_by P f false x ys px pys = pys

pub all_map_filtered : {A B : Type 0} (P : B → Type 0) (f : A → B) (p : A → Bool) (xs : List A) → AllByRecursion P (map f xs) → AllByRecursion P (map f (filter p xs))
all_map_filtered P f p [] h = tt
all_map_filtered P f p (x ∷ xs) h = filtered_by P f (p x) x (filter p xs) h.0 (all_map_filtered P f p xs h.1)

distinct_by : {A B : Type 0} (f : A → B) (b : Bool) (x : A) (ys : List A) → AllByRecursion (λ y. f x ≢ y) (map f ys) → AreDistinct (map f ys) → AreDistinct (map f (if b then x ∷ ys else ys))
distinct_by f true x ys other h = (other, h)
distinct_by f false x ys other h = h

pub distinct_filtered : {A B : Type 0} (f : A → B) (p : A → Bool) (xs : List A) → AreDistinct (map f xs) → AreDistinct (map f (filter p xs))
distinct_filtered f p [] h = tt
distinct_filtered f p (x ∷ xs) h = distinct_by f (p x) x (filter p xs) (all_map_filtered (λ y. f x ≢ y) f p xs h.0) (distinct_filtered f p xs h.1)

kept_by : {A : Type 0} (P : A → Type 0) (b : Bool) (x : A) (ys : List A) → P x → AllByRecursion P ys → AllByRecursion P (if b then x ∷ ys else ys)
kept_by P true x ys px pys = (px, pys)
kept_by P false x ys px pys = pys

pub all_filtered : {A : Type 0} (P : A → Type 0) (p : A → Bool) (xs : List A) → AllByRecursion P xs → AllByRecursion P (filter p xs)
all_filtered P p [] h = tt
all_filtered P p (x ∷ xs) h = kept_by P (p x) x (filter p xs) h.0 (all_filtered P p xs h.1)
