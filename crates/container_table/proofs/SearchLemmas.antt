-- What a search by halving tells of a list in order.
use Rattle.std.proofs.lemmas.List.{get_or_read}
use Rattle.std.proofs.Common.{◌≡◌, ℕ, suc, zero, ◌+◌, ◌<◌, ◌≤◌, Bool, true, false, if◌then◌else◌, List, [], ◌∷◌, length, get_or, map, Some, None, Result, Ok, Err, find, refl, sym, ◌∙◌, subst, ap, arith, leb, Ordering, MatchResult}
use Rattle.std.proofs.lemmas.Bool.Decides.{nat_tests}
use Rattle.std.specs.List.{AllByRecursion, AllWithin, HoldsAt, insert, remove}
use Rattle.std.specs.List.Sorted.{IsBinarySearchResult, IsSearchInRange, IsNonDecreasingBy, IsPartitionPoint}
use Rattle.std.specs.Ordering.{ordering_index}
use Rattle.std.specs.declared.cmp.Ordering.TheVariants.{Less, Equal, Greater}
use Rattle.container_table.specs.Lists.{placed, remove_first}
use Rattle.container_table.specs.Order.{IsInOrder}
use Rattle.container_table.specs.Search.{HoldsOf, Parts}
use Rattle.container_table.proofs.PlacedLemmas.{AreAlone, all_imp, all_removed}

-- ---- numbers that don't fall along a list

abbrev pub Rises : {Y : Type 0} → (Y → ℕ) → List Y → Type 0
Rises n [] = Unit {0}
Rises n (y ∷ ys) = AllByRecursion (λ z. n y ≤ n z) ys × Rises n ys

-- ---- an order that is the least or the greatest

is_least : (o : Ordering) → ordering_index o ≤ 0 → o ≡ Less
is_least Less low = refl
is_least Equal low = absurd (omega (arith, low))
is_least Greater low = absurd (omega (arith, low))

is_most : (o : Ordering) → 2 ≤ ordering_index o → o ≡ Greater
is_most Less high = absurd (omega (arith, high))
is_most Equal high = absurd (omega (arith, high))
is_most Greater high = refl

module _ {Y : Type 0} where
  pub all_at : (P : Y → Type 0) (ys : List Y) (k : ℕ) (d : Y) → AllByRecursion P ys → k < length ys → P (get_or ys k d)
  all_at P [] k d h less = absurd (omega arith)
  all_at P (y ∷ ys) zero d h less = h.0
  all_at P (y ∷ ys) (suc k) d h less = all_at P ys k d h.1 (omega arith)

  pub rises_far : (n : Y → ℕ) (ys : List Y) → Rises n ys → IsNonDecreasingBy n ys
  rises_far n [] h i j d below less = absurd (omega arith)
  rises_far n (y ∷ ys) h zero zero d below less = omega arith
  rises_far n (y ∷ ys) h zero (suc j) d below less = all_at (λ z. n y ≤ n z) ys j d h.0 (omega arith)
  rises_far n (y ∷ ys) h (suc i) zero d below less = absurd (omega arith)
  rises_far n (y ∷ ys) h (suc i) (suc j) d below less = rises_far n ys h.1 i j d (omega arith) (omega arith)

  -- ---- by places and by recursion

  pub holds_of : (P : Y → Type 0) (ys : List Y) (i : ℕ) → i < length ys → HoldsAt P ys i → HoldsOf P ys i
  holds_of P [] i less h = absurd (omega arith)
  holds_of P (y ∷ ys) zero less h = h y
  holds_of P (y ∷ ys) (suc i) less h = holds_of P ys i (omega arith) h

  pub all_from : (P : Y → Type 0) (ys : List Y) → ((k : ℕ) (d : Y) → k < length ys → P (get_or ys k d)) → AllByRecursion P ys
  all_from P [] h = tt
  all_from P (y ∷ ys) h = (h 0 y (omega arith), all_from P ys (λ k d less. h (suc k) d (omega arith)))

  pub parts_of : (P Q : Y → Type 0) (ys : List Y) (i : ℕ) → i ≤ length ys → IsPartitionPoint P Q ys i → Parts P Q ys i
  parts_of P Q ys zero below h = all_from Q ys (λ k d less. h.1 k d (omega arith) less)
  parts_of P Q [] (suc i) below h = absurd (omega arith)
  parts_of P Q (y ∷ ys) (suc i) below h =
      (h.0 0 y (omega arith) (omega arith), parts_of P Q ys i (omega arith) (λ k d low high. h.0 (suc k) d (omega arith) (omega arith), λ k d low high. h.1 (suc k) d (omega arith) (omega arith)))

  pub rises_in_order : (n : Y → ℕ) (before : Y → Y → Bool) (ys : List Y) → IsInOrder before ys → ((x y : Y) → before x y ≡ true → n x ≤ n y) → Rises n ys
  rises_in_order n before [] h up = tt
  rises_in_order n before (y ∷ ys) h up = (all_imp (λ z. before y z ≡ true) (λ z. n y ≤ n z) (λ z e. up y z e) ys h.0, rises_in_order n before ys h.1 up)

  pub holds_bound : (P : Y → Type 0) (ys : List Y) (i : ℕ) → HoldsOf P ys i → i < length ys
  holds_bound P [] i h = absurd h
  holds_bound P (y ∷ ys) zero h = omega arith
  holds_bound P (y ∷ ys) (suc i) h = let low : i < length ys = holds_bound P ys i h in omega arith

  pub holds_at : (P : Y → Type 0) (ys : List Y) (i : ℕ) (d : Y) → HoldsOf P ys i → P (get_or ys i d)
  holds_at P [] i d h = absurd h
  holds_at P (y ∷ ys) zero d h = h
  holds_at P (y ∷ ys) (suc i) d h = holds_at P ys i d h

  pub holds_imp : (P Q : Y → Type 0) (ys : List Y) (i : ℕ) → ((y : Y) → P y → Q y) → HoldsOf P ys i → HoldsOf Q ys i
  holds_imp P Q [] i f h = h
  holds_imp P Q (y ∷ ys) zero f h = f y h
  holds_imp P Q (y ∷ ys) (suc i) f h = holds_imp P Q ys i f h

  map_same : (ys : List Y) → map (λ y. y) ys ≡ ys
  map_same [] = refl
  map_same (y ∷ ys) = ap (λ l. y ∷ l) (map_same ys)

  pub found_place : (ord : Y → Ordering) (ys : List Y) (r : Result ℕ ℕ) → Rises (λ y. ordering_index (ord y)) ys → IsSearchInRange r (length ys) → IsBinarySearchResult ord ys r
      → MatchResult r (HoldsOf (λ y. ord y ≡ Equal) ys) (Parts (λ y. ord y ≡ Less) (λ y. ord y ≡ Greater) ys)
  found_place ord ys (Ok i) up bound h = holds_of (λ y. ord y ≡ Equal) ys i bound h
  found_place ord ys (Err i) up bound h = parts_of (λ y. ord y ≡ Less) (λ y. ord y ≡ Greater) ys i bound (h (rises_far (λ y. ordering_index (ord y)) ys up))

  -- ---- what one look tells of those before or behind it

  pub less_until : (ord : Y → Ordering) (ys : List Y) (m : ℕ) (y : Y) → IsNonDecreasingBy (λ z. ordering_index (ord z)) ys → m < length ys → y ≡ get_or ys m y → ord y ≡ Less
      → AllWithin (λ z. ord z ≡ Less) ys 0 (m + 1)
  less_until ord ys m y up within at e =
      λ k d low high. is_least (ord (get_or ys k d)) (subst (λ (n : ℕ). ordering_index (ord (get_or ys k d)) ≤ n) (ap ordering_index (ap ord (sym (get_or_read ys m y within at d)) ∙ e)) (up k m d (omega arith) within))

  pub greater_from : (ord : Y → Ordering) (ys : List Y) (m : ℕ) (y : Y) → IsNonDecreasingBy (λ z. ordering_index (ord z)) ys → m < length ys → y ≡ get_or ys m y → ord y ≡ Greater
      → AllWithin (λ z. ord z ≡ Greater) ys m (length ys)
  greater_from ord ys m y up within at e =
      λ k d low high. is_most (ord (get_or ys k d)) (subst (λ (n : ℕ). n ≤ ordering_index (ord (get_or ys k d))) (ap ordering_index (ap ord (sym (get_or_read ys m y within at d)) ∙ e)) (up m k d low high))

module _ {X : Type 0} where
  pub none_passes : (p : X → Bool) (l : List X) (i : ℕ) → AllByRecursion (λ y. p y ≡ false) l → HoldsOf (λ y. p y ≡ true) l i → ⊥
  none_passes p [] i a h = h
  none_passes p (y ∷ ys) zero a h = let e : false ≡ true = sym a.0 ∙ h in absurd (cc)
  none_passes p (y ∷ ys) (suc i) a h = none_passes p ys i a.1 h

  -- the place behind one that was taken out
  pub parts_removed : (P Q : X → Type 0) (p : X → Bool) (l : List X) (i j k : ℕ) → AreAlone p l → HoldsOf (λ y. p y ≡ true) l i → Parts P Q l j
      → (i < j → k + 1 ≡ j) → (j ≤ i → k ≡ j) → Parts P Q (remove_first p l) k
  parts_removed P Q p [] i j k a h e up down = absurd h
  parts_removed P Q p (y ∷ ys) zero zero k a h e up down = rw (h, down (omega arith)) e.1
  parts_removed P Q p (y ∷ ys) zero (suc j) k a h e up down = let is : k ≡ j = omega (arith, up (omega arith)) in rw (h, is) e.1
  parts_removed P Q p (y ∷ ys) (suc i) zero k a h e up down = rw (down (omega arith)) (all_removed Q p (y ∷ ys) e)
  parts_removed P Q p (y ∷ ys) (suc i) (suc j) zero a h e up down = absurd (apart_places (leb (suc j) (suc i)) refl)
    where
      apart_places : (b : Bool) → leb (suc j) (suc i) ≡ b → ⊥
      apart_places true f = let down' : 0 ≡ suc j = down (grind (arith, nat_tests, f)) in omega arith
      apart_places false f = let less : suc i < suc j = grind (arith, nat_tests, f) in let up' : 0 + 1 ≡ suc j = up less in omega arith
  parts_removed P Q p (y ∷ ys) (suc i) (suc j) (suc k) a h e up down =
      go (p y) refl (parts_removed P Q p ys i j k a.1 h e.1 (λ less. let is : suc k + 1 ≡ suc j = up (omega arith) in omega arith) (λ more. let is : suc k ≡ suc j = down (omega arith) in omega arith))
    where
      go : (b : Bool) → p y ≡ b → Parts P Q (remove_first p ys) k → Parts P Q (if b then ys else y ∷ remove_first p ys) (suc k)
      go true f more = absurd (none_passes p ys i (a.0 f) h)
      go false f more = (e.0, more)

  pub parts_imp : (P P' Q Q' : X → Type 0) (xs : List X) (i : ℕ) → ((x : X) → P x → Q x) → ((x : X) → P' x → Q' x) → Parts P P' xs i → Parts Q Q' xs i
  parts_imp P P' Q Q' xs zero h g e = all_imp P' Q' g xs e
  parts_imp P P' Q Q' [] (suc i) h g e = e
  parts_imp P P' Q Q' (x ∷ xs) (suc i) h g e = (h x e.0, parts_imp P P' Q Q' xs i h g e.1)

  pub find_none : (p : X → Bool) (l : List X) → AllByRecursion (λ y. p y ≡ false) l → find p l ≡ None
  find_none p [] a = refl
  find_none p (y ∷ ys) a = rw a.0 (find_none p ys a.1)

  pub all_of_parts : (P P' Q : X → Type 0) (xs : List X) (i : ℕ) → ((x : X) → P x → Q x) → ((x : X) → P' x → Q x) → Parts P P' xs i → AllByRecursion Q xs
  all_of_parts P P' Q [] zero h g e = tt
  all_of_parts P P' Q (x ∷ xs) zero h g e = (g x e.0, all_of_parts P P' Q xs zero h g e.1)
  all_of_parts P P' Q [] (suc i) h g e = absurd e
  all_of_parts P P' Q (x ∷ xs) (suc i) h g e = (h x e.0, all_of_parts P P' Q xs i h g e.1)

module _ {X Y : Type 0} (f : X → Y) where
  -- ---- what holds of a list and of what is made of it

  pub holds_back : (P : Y → Type 0) (Q : X → Type 0) (xs : List X) (i : ℕ) → AllByRecursion (λ x. P (f x) → Q x) xs → HoldsOf P (map f xs) i → HoldsOf Q xs i
  holds_back P Q [] i h e = e
  holds_back P Q (x ∷ xs) zero h e = h.0 e
  holds_back P Q (x ∷ xs) (suc i) h e = holds_back P Q xs i h.1 e

  pub all_back : (P : Y → Type 0) (Q : X → Type 0) (xs : List X) → AllByRecursion (λ x. P (f x) → Q x) xs → AllByRecursion P (map f xs) → AllByRecursion Q xs
  all_back P Q [] h e = tt
  all_back P Q (x ∷ xs) h e = (h.0 e.0, all_back P Q xs h.1 e.1)

  pub parts_back : (P P' : Y → Type 0) (Q Q' : X → Type 0) (xs : List X) (i : ℕ) → AllByRecursion (λ x. P (f x) → Q x) xs → AllByRecursion (λ x. P' (f x) → Q' x) xs
      → Parts P P' (map f xs) i → Parts Q Q' xs i
  parts_back P P' Q Q' xs zero h g e = all_back P' Q' xs g e
  parts_back P P' Q Q' [] (suc i) h g e = e
  parts_back P P' Q Q' (x ∷ xs) (suc i) h g e = (h.0 e.0, parts_back P P' Q Q' xs i h.1 g.1 e.1)

  pub holds_on : (P : X → Type 0) (Q : Y → Type 0) (xs : List X) (i : ℕ) → ((x : X) → P x → Q (f x)) → HoldsOf P xs i → HoldsOf Q (map f xs) i
  holds_on P Q [] i h e = e
  holds_on P Q (x ∷ xs) zero h e = h x e
  holds_on P Q (x ∷ xs) (suc i) h e = holds_on P Q xs i h e

  pub all_on : (P : X → Type 0) (Q : Y → Type 0) (xs : List X) → ((x : X) → P x → Q (f x)) → AllByRecursion P xs → AllByRecursion Q (map f xs)
  all_on P Q [] h e = tt
  all_on P Q (x ∷ xs) h e = (h x e.0, all_on P Q xs h e.1)

  pub parts_on : (P P' : X → Type 0) (Q Q' : Y → Type 0) (xs : List X) (i : ℕ) → ((x : X) → P x → Q (f x)) → ((x : X) → P' x → Q' (f x)) → Parts P P' xs i → Parts Q Q' (map f xs) i
  parts_on P P' Q Q' xs zero h g e = all_on P' Q' xs g e
  parts_on P P' Q Q' [] (suc i) h g e = e
  parts_on P P' Q Q' (x ∷ xs) (suc i) h g e = (h x e.0, parts_on P P' Q Q' xs i h g e.1)

  pub rises_made : (n : Y → ℕ) (m : X → ℕ) (before : X → X → Bool) (l : List X) → IsInOrder before l → AllByRecursion (λ x. n (f x) ≡ m x) l
      → ((x y : X) → before x y ≡ true → m x ≤ m y) → Rises n (map f l)
  rises_made n m before [] h e up = tt
  rises_made n m before (x ∷ xs) h e up = (go xs h.0 e.1, rises_made n m before xs h.1 e.1 up)
    where
      go : (l : List X) → AllByRecursion (λ y. before x y ≡ true) l → AllByRecursion (λ y. n (f y) ≡ m y) l → AllByRecursion (λ z. n (f x) ≤ n z) (map f l)
      go [] b g = tt
      go (y ∷ ys) b g = (rw (e.0, g.0) (up x y b.0), go ys b.1 g.1)

  -- ---- changes at the place that was found

  pub insert_at : (before : X → X → Bool) (x : X) (l : List X) (i : ℕ) → Parts (λ y. before y x ≡ true) (λ y. before y x ≡ false) l i
      → insert (map f l) i (f x) ≡ map f (placed before x l)
  insert_at before x [] zero h = refl
  insert_at before x (y ∷ ys) zero h = rw h.0 refl
  insert_at before x [] (suc i) h = absurd h
  insert_at before x (y ∷ ys) (suc i) h = rw h.0 (ap (λ l. f y ∷ l) (insert_at before x ys i h.1))

  pub remove_at : (p : X → Bool) (l : List X) (i : ℕ) → AreAlone p l → HoldsOf (λ y. p y ≡ true) l i → remove (map f l) i ≡ map f (remove_first p l)
  remove_at p [] i a h = absurd h
  remove_at p (y ∷ ys) zero a h = rw h refl
  remove_at p (y ∷ ys) (suc i) a h = go (p y) refl (remove_at p ys i a.1 h)
    where
      go : (b : Bool) → p y ≡ b → remove (map f ys) i ≡ map f (remove_first p ys) → remove (map f (y ∷ ys)) (suc i) ≡ map f (if b then ys else y ∷ remove_first p ys)
      go true e more = absurd (none_passes p ys i (a.0 e) h)
      go false e more = ap (λ l. f y ∷ l) more

  -- the one that passes stands at that place
  pub find_at : (p : X → Bool) (l : List X) (i : ℕ) → AreAlone p l → HoldsOf (λ y. p y ≡ true) l i → (x : X) × (find p l ≡ Some x) × ((d : Y) → get_or (map f l) i d ≡ f x)
  find_at p [] i a h = absurd h
  find_at p (y ∷ ys) zero a h = (y, rw h refl, λ d. refl)
  find_at p (y ∷ ys) (suc i) a h = go (p y) refl (find_at p ys i a.1 h)
    where
      go : (b : Bool) → p y ≡ b → (x : X) × (find p ys ≡ Some x) × ((d : Y) → get_or (map f ys) i d ≡ f x)
          → (x : X) × ((if b then Some y else find p ys) ≡ Some x) × ((d : Y) → get_or (map f ys) i d ≡ f x)
      go true e more = absurd (none_passes p ys i (a.0 e) h)
      go false e more = more

module _ {X : Type 0} where
  pub insert_here : (before : X → X → Bool) (x : X) (l : List X) (i : ℕ) → Parts (λ y. before y x ≡ true) (λ y. before y x ≡ false) l i → insert l i x ≡ placed before x l
  insert_here before x l i h = ap (λ (ys : List X). insert ys i x) (sym (map_same l)) ∙ insert_at (λ y. y) before x l i h ∙ map_same (placed before x l)

  pub remove_here : (p : X → Bool) (l : List X) (i : ℕ) → AreAlone p l → HoldsOf (λ y. p y ≡ true) l i → remove l i ≡ remove_first p l
  remove_here p l i a h = ap (λ (ys : List X). remove ys i) (sym (map_same l)) ∙ remove_at (λ y. y) p l i a h ∙ map_same (remove_first p l)

  pub find_here : (p : X → Bool) (l : List X) (i : ℕ) (d : X) → AreAlone p l → HoldsOf (λ y. p y ≡ true) l i → find p l ≡ Some (get_or l i d)
  find_here p l i d a h = let one = find_at (λ y. y) p l i a h in one.1 ∙ ap Some (sym (ap (λ (ys : List X). get_or ys i d) (sym (map_same l)) ∙ one.2 d))
