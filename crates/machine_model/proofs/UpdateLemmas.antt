-- A change of the first item that passes.
use Rattle.std.proofs.Common.{◌≡◌, ℕ, zero, suc, ◌<◌, Bool, true, false, List, [], ◌∷◌, Option, Some, None, refl, ap, sym, ◌∙◌, arith, find, map, length, get_or, slice_set, position, if◌then◌else◌, ◌⊎◌, inl, inr}
use Rattle.std.specs.List.{AllByRecursion}
use Rattle.std.proofs.Math.ListN.{set}
use Rattle.std.proofs.lemmas.List.Quantifiers.{position-Some}
use Rattle.std.proofs.lemmas.List.Folds.{find_at}
use Rattle.std.proofs.lemmas.Option.{slice_get_past}
use Rattle.std.proofs.lemmas.Bool.Decides.{nat_tests}
use Rattle.std.specs.List.{position_or_len}
use Rattle.std.proofs.Common.{nat_lt, ◌≤◌}
use Rattle.container_table.specs.Lists.{update_first}
use Rattle.machine_model.specs.Consistency.{is_there}
use Rattle.machine_model.proofs.ItemLemmas.{All-imp}

pub decide : (b : Bool) → (b ≡ true) ⊎ (b ≡ false)
decide true = inl refl
decide false = inr refl

same_some : {A : Type 0} (x y : A) → Some x ≡ Some y → x ≡ y
same_some x y e = cc

-- it is found as it was changed
pub find_updated : {A : Type 0} (p : A → Bool) (f : A → A) (xs : List A) (x : A) → ((y : A) → p (f y) ≡ p y) → find p xs ≡ Some x → find p (update_first p f xs) ≡ Some (f x)
find_updated p f [] x keeps e = absurd (cc)
find_updated p f (y ∷ ys) x keeps e =
    elim (decide (p y)) [
      | inl b ↦
          let here : y ≡ x = same_some y x (sym (ap (λ c. if c then Some y else find p ys) b) ∙ e) in
          let there : p (f y) ≡ true = keeps y ∙ b in
          ap (λ c. find p (if c then f y ∷ ys else y ∷ update_first p f ys)) b ∙ (ap (λ c. if c then Some (f y) else find p ys) there ∙ ap (λ z. Some (f z)) here)
      | inr b ↦
          let rest : find p ys ≡ Some x = sym (ap (λ c. if c then Some y else find p ys) b) ∙ e in
          ap (λ c. find p (if c then f y ∷ ys else y ∷ update_first p f ys)) b ∙ (ap (λ c. if c then Some y else find p (update_first p f ys)) b ∙ find_updated p f ys x keeps rest)
    ]

-- two changes are one
pub update_twice : {A : Type 0} (p : A → Bool) (f g : A → A) (xs : List A) → ((y : A) → p (f y) ≡ p y) → update_first p g (update_first p f xs) ≡ update_first p (λ x. g (f x)) xs
update_twice p f g [] keeps = refl
update_twice p f g (y ∷ ys) keeps =
    elim (decide (p y)) [
      | inl b ↦
          let there : p (f y) ≡ true = keeps y ∙ b in
          ap (λ c. update_first p g (if c then f y ∷ ys else y ∷ update_first p f ys)) b
          ∙ (ap (λ c. if c then g (f y) ∷ ys else f y ∷ update_first p g ys) there
          ∙ sym (ap (λ c. if c then g (f y) ∷ ys else y ∷ update_first p (λ x. g (f x)) ys) b))
      | inr b ↦
          ap (λ c. update_first p g (if c then f y ∷ ys else y ∷ update_first p f ys)) b
          ∙ (ap (λ c. if c then g y ∷ update_first p f ys else y ∷ update_first p g (update_first p f ys)) b
          ∙ (ap (λ l. y ∷ l) (update_twice p f g ys keeps)
          ∙ sym (ap (λ c. if c then g (f y) ∷ ys else y ∷ update_first p (λ x. g (f x)) ys) b)))
    ]

map_either : {A B : Type 0} (h : A → B) (b : Bool) (x y : A) (xs ys : List A) → h y ≡ h x → map h ys ≡ map h xs → map h (if b then y ∷ xs else x ∷ ys) ≡ map h (x ∷ xs)
map_either h true x y xs ys e r = ap (λ z. z ∷ map h xs) e
map_either h false x y xs ys e r = ap (λ l. h x ∷ l) r

-- what a change leaves as it is stands as it was
pub map_updated : {A B : Type 0} (h : A → B) (p : A → Bool) (f : A → A) (xs : List A) → ((x : A) → h (f x) ≡ h x) → map h (update_first p f xs) ≡ map h xs
map_updated h p f [] keeps = refl
map_updated h p f (x ∷ xs) keeps = map_either h (p x) x (f x) xs (update_first p f xs) (keeps x) (map_updated h p f xs keeps)

length_either : {A : Type 0} (b : Bool) (x y : A) (xs ys : List A) → length ys ≡ length xs → length (if b then y ∷ xs else x ∷ ys) ≡ length (x ∷ xs)
length_either true x y xs ys e = refl
length_either false x y xs ys e = ap suc e

pub length_updated : {A : Type 0} (p : A → Bool) (f : A → A) (xs : List A) → length (update_first p f xs) ≡ length xs
length_updated p f [] = refl
length_updated p f (x ∷ xs) = length_either (p x) x (f x) xs (update_first p f xs) (length_updated p f xs)

All_either : {A : Type 0} (Q : A → Type 0) (b : Bool) (x y : A) (xs ys : List A) → Q x → Q y → AllByRecursion Q xs → AllByRecursion Q ys → AllByRecursion Q (if b then y ∷ xs else x ∷ ys)
All_either Q true x y xs ys px py pxs pys = (py, pxs)
All_either Q false x y xs ys px py pxs pys = (px, pys)

pub All_updated : {A : Type 0} (P Q : A → Type 0) (p : A → Bool) (f : A → A) → ((x : A) → P x → Q (f x)) → ((x : A) → P x → Q x) → (xs : List A) → AllByRecursion P xs → AllByRecursion Q (update_first p f xs)
All_updated P Q p f makes keeps [] h = tt
All_updated P Q p f makes keeps (x ∷ xs) h = All_either Q (p x) x (f x) xs (update_first p f xs) (keeps x h.0) (makes x h.0) (All-imp P Q keeps xs h.1) (All_updated P Q p f makes keeps xs h.1)

there_either : {A : Type 0} (b : Bool) (x : A) (o : Option A) → is_there (if b then Some x else o) ≡ (if b then true else is_there o)
there_either true x o = refl
there_either false x o = refl

there_swap : {A : Type 0} (q : A → Bool) (b : Bool) (x y : A) (xs ys : List A) → q y ≡ q x → is_there (find q ys) ≡ is_there (find q xs) → is_there (find q (if b then y ∷ xs else x ∷ ys)) ≡ is_there (find q (x ∷ xs))
there_swap q true x y xs ys e r = there_either (q y) y (find q xs) ∙ (ap (λ c. if c then true else is_there (find q xs)) e ∙ sym (there_either (q x) x (find q xs)))
there_swap q false x y xs ys e r = there_either (q x) x (find q ys) ∙ (ap (λ c. if q x then true else c) r ∙ sym (there_either (q x) x (find q xs)))

-- what stood stands
pub there_updated : {A : Type 0} (q p : A → Bool) (f : A → A) (xs : List A) → ((x : A) → q (f x) ≡ q x) → is_there (find q (update_first p f xs)) ≡ is_there (find q xs)
there_updated q p f [] keeps = refl
there_updated q p f (x ∷ xs) keeps = there_swap q (p x) x (f x) xs (update_first p f xs) (keeps x) (there_updated q p f xs keeps)

-- ---- at its place, among what the items mean

set_at : {A B : Type 0} (p : B → Bool) (f : B → B) (g : A → B) (d y : A) (xs : List A) (i : ℕ) → i < length xs → p (g (get_or xs i d)) ≡ true
    → ((k : ℕ) → k < i → p (g (get_or xs k d)) ≡ false) → g y ≡ f (g (get_or xs i d)) → map g (set xs i y) ≡ update_first p f (map g xs)
set_at p f g d y [] i low here before e = absurd (omega arith)
set_at p f g d y (x ∷ xs) zero low here before e = ap (λ z. z ∷ map g xs) e ∙ sym (ap (λ c. if c then f (g x) ∷ map g xs else g x ∷ update_first p f (map g xs)) here)
set_at p f g d y (x ∷ xs) (suc i) low here before e =
    let first : p (g x) ≡ false = before 0 (omega arith) in
    ap (λ l. g x ∷ l) (set_at p f g d y xs i (omega arith) here (λ k h. before (suc k) (omega arith)) e)
    ∙ sym (ap (λ c. if c then f (g x) ∷ map g xs else g x ∷ update_first p f (map g xs)) first)

pub set_updated : {A B : Type 0} (p : B → Bool) (f : B → B) (g : A → B) (d y : A) (xs : List A) (i : ℕ) → position (λ x. p (g x)) xs ≡ Some i → g y ≡ f (g (get_or xs i d))
    → map g (slice_set xs i y) ≡ update_first p f (map g xs)
set_updated p f g d y xs i e h = let q = position-Some (λ x. p (g x)) xs i d e in set_at p f g d y xs i q.0 q.1 q.2 h

none_cons : {A : Type 0} (b : Bool) (x : A) (r : Option A) → (if b then Some x else r) ≡ None → (b ≡ false) × (r ≡ None)
none_cons true x r e = absurd (cc)
none_cons false x r e = (refl, e)

pub update_none : {A B : Type 0} (p : B → Bool) (f : B → B) (g : A → B) (xs : List A) → find (λ x. p (g x)) xs ≡ None → map g xs ≡ update_first p f (map g xs)
update_none p f g [] e = refl
update_none p f g (x ∷ xs) e =
    let q = none_cons (p (g x)) x (find (λ y. p (g y)) xs) e in
    ap (λ l. g x ∷ l) (update_none p f g xs q.1) ∙ sym (ap (λ c. if c then f (g x) ∷ map g xs else g x ∷ update_first p f (map g xs)) q.0)

past_end : (b : Bool) (i : ℕ) → (if b then Some i else None) ≡ None → b ≡ false
past_end true i e = absurd (cc)
past_end false i e = refl

pub update_nowhere : {A B : Type 0} (p : B → Bool) (f : B → B) (g : A → B) (xs : List A) → position (λ x. p (g x)) xs ≡ None → map g xs ≡ update_first p f (map g xs)
update_nowhere {A = A} p f g xs e =
    let t : A → Bool = λ x. p (g x) in
    let off : nat_lt (position_or_len t xs) (length xs) ≡ false = past_end (nat_lt (position_or_len t xs) (length xs)) (position_or_len t xs) e in
    let past : length xs ≤ position_or_len t xs = grind (arith, nat_tests, off) in
    update_none p f g xs (find_at t xs ∙ slice_get_past xs (position_or_len t xs) past)
