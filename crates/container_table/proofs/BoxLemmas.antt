-- What a change of one box makes of the containers, their numbers and the rooms of their logs.
use Rattle.std.proofs.Common.{◌≡◌, ℕ, suc, zero, ◌-◌, ◌<◌, ◌≤◌, Bool, true, false, if◌then◌else◌, List, [], ◌∷◌, ◌++◌, length, get_or, Some, None, position, refl, sym, ◌∙◌, subst, ap, arith}
use Rattle.std.specs.Prelude.{◌==◌, slice_index}
use Rattle.std.specs.List.{AllByRecursion, remove}
use Rattle.std.proofs.Math.ListN.{set}
use Rattle.std.specs.Ordering.{nat_cmp}
use Rattle.std.specs.declared.cmp.Ordering.TheVariants.{Less, Greater}
use Rattle.std.specs.declared.boxed.Box.{Box}
use Rattle.engine_text.specs.declared.container.Container.{Container}
use Rattle.engine_text.proofs.PlaceLemmas.{position_is, no_position}
use Rattle.container_table.specs.Lists.{remove_first, update_first, at_place}
use Rattle.container_table.specs.Order.{IsInOrder}
use Rattle.container_table.specs.Search.{HoldsOf, Parts}
use Rattle.container_table.specs.Tables.{without}
use Rattle.container_table.specs.Logs.{container_in, room_in, rooms_used, rooms_without, AreNoLess, FitsLog}
use Rattle.container_table.specs.declared.held.Held.{Held}
use Rattle.container_table.specs.Held.{contents, numbers_of, rooms_of, is_numbered_before}
use Rattle.container_table.proofs.PlacedLemmas.{AreAlone}
use Rattle.container_table.proofs.SearchLemmas.{none_passes, remove_at, all_at}
use Rattle.container_table.proofs.HeldLemmas.{numbers_alone, no_number}

pub no_less_itself : (rooms : List ℕ) → AreNoLess rooms rooms
no_less_itself [] = tt
no_less_itself (r ∷ rooms) = (omega arith, no_less_itself rooms)

module _ {Z : Type 0} where
  pub rooms_more : (bs : List (Box Held Z)) (b : Box Held Z) → rooms_of (bs ++ b ∷ []) ≡ rooms_of bs ++ room_in b.value ∷ []
  rooms_more [] b = refl
  rooms_more (x ∷ xs) b = ap (λ l. room_in x.value ∷ l) (rooms_more xs b)

  pub rooms_kept : (bs : List (Box Held Z)) (i : ℕ) (d w : Box Held Z) → room_in w.value ≡ room_in (get_or bs i d).value → rooms_of (set bs i w) ≡ rooms_of bs
  rooms_kept [] i d w e = refl
  rooms_kept (b ∷ bs) zero d w e = ap (λ r. r ∷ rooms_of bs) e
  rooms_kept (b ∷ bs) (suc i) d w e = ap (λ l. room_in b.value ∷ l) (rooms_kept bs i d w e)

  pub no_less : (bs : List (Box Held Z)) (i : ℕ) (d w : Box Held Z) → room_in (get_or bs i d).value ≤ room_in w.value → AreNoLess (rooms_of bs) (rooms_of (set bs i w))
  no_less [] i d w e = tt
  no_less (b ∷ bs) zero d w e = (e, no_less_itself (rooms_of bs))
  no_less (b ∷ bs) (suc i) d w e = (omega arith, no_less bs i d w e)

  pub contents_kept : (bs : List (Box Held Z)) (i : ℕ) (d w : Box Held Z) → container_in w.value ≡ container_in (get_or bs i d).value → contents (set bs i w) ≡ contents bs
  contents_kept [] i d w e = refl
  contents_kept (b ∷ bs) zero d w e = ap (λ c. c ∷ contents bs) e
  contents_kept (b ∷ bs) (suc i) d w e = ap (λ l. container_in b.value ∷ l) (contents_kept bs i d w e)

  pub contents_at : (f : Container → Container) (bs : List (Box Held Z)) (i : ℕ) (d w : Box Held Z) → container_in w.value ≡ f (container_in (get_or bs i d).value)
      → contents (set bs i w) ≡ at_place f i (contents bs)
  contents_at f [] i d w e = refl
  contents_at f (b ∷ bs) zero d w e = ap (λ c. c ∷ contents bs) e
  contents_at f (b ∷ bs) (suc i) d w e = ap (λ l. container_in b.value ∷ l) (contents_at f bs i d w e)

  pub rooms_removed : (n : ℕ) (bs : List (Box Held Z)) (i : ℕ) → AreAlone (λ c. c.number == n) (contents bs) → HoldsOf (λ c. (c.number == n) ≡ true) (contents bs) i
      → rooms_of (remove bs i) ≡ rooms_without n (contents bs) (rooms_of bs)
  rooms_removed n [] i a h = absurd h
  rooms_removed n (b ∷ bs) zero a h = rw h refl
  rooms_removed n (b ∷ bs) (suc i) a h = go (b.value.container.number == n) refl (rooms_removed n bs i a.1 h)
    where
      go : (t : Bool) → (b.value.container.number == n) ≡ t → rooms_of (remove bs i) ≡ rooms_without n (contents bs) (rooms_of bs)
          → room_in b.value ∷ rooms_of (remove bs i) ≡ (if t then rooms_of bs else room_in b.value ∷ rooms_without n (contents bs) (rooms_of bs))
      go true e more = absurd (none_passes (λ c. c.number == n) (contents bs) i (a.0 e) h)
      go false e more = ap (λ l. room_in b.value ∷ l) more

  pub rooms_less : (n : ℕ) (bs : List (Box Held Z)) (i : ℕ) (d w : Box Held Z) → AreAlone (λ c. c.number == n) (contents bs) → HoldsOf (λ c. (c.number == n) ≡ true) (contents bs) i
      → room_in w.value ≡ room_in (get_or bs i d).value - 1 → rooms_of (set bs i w) ≡ rooms_used n (contents bs) (rooms_of bs)
  rooms_less n [] i d w a h e = absurd h
  rooms_less n (b ∷ bs) zero d w a h e = rw h (ap (λ r. r ∷ rooms_of bs) e)
  rooms_less n (b ∷ bs) (suc i) d w a h e = go (b.value.container.number == n) refl (rooms_less n bs i d w a.1 h e)
    where
      go : (t : Bool) → (b.value.container.number == n) ≡ t → rooms_of (set bs i w) ≡ rooms_used n (contents bs) (rooms_of bs)
          → room_in b.value ∷ rooms_of (set bs i w) ≡ (if t then (room_in b.value - 1) ∷ rooms_of bs else room_in b.value ∷ rooms_used n (contents bs) (rooms_of bs))
      go true f more = absurd (none_passes (λ c. c.number == n) (contents bs) i (a.0 f) h)
      go false f more = ap (λ l. room_in b.value ∷ l) more

  pub room_at : (bs : List (Box Held Z)) (i : ℕ) (d : Box Held Z) → i < length bs → slice_index (rooms_of bs) i ≡ room_in (get_or bs i d).value
  room_at [] i d less = absurd (omega arith)
  room_at (b ∷ bs) zero d less = refl
  room_at (b ∷ bs) (suc i) d less = room_at bs i d (omega arith)

  pub room_set : (bs : List (Box Held Z)) (i : ℕ) (w : Box Held Z) → i < length bs → slice_index (rooms_of (set bs i w)) i ≡ room_in w.value
  room_set [] i w less = absurd (omega arith)
  room_set (b ∷ bs) zero w less = refl
  room_set (b ∷ bs) (suc i) w less = room_set bs i w (omega arith)

-- ---- the place of a number

module _ {A : Type 0} (p : A → Bool) where
  place_bound : (xs : List A) (i : ℕ) → HoldsOf (λ x. p x ≡ true) xs i → i < length xs
  place_bound [] i h = absurd h
  place_bound (x ∷ xs) zero h = omega arith
  place_bound (x ∷ xs) (suc i) h = let low : i < length xs = place_bound xs i h in omega arith

  place_passes : (xs : List A) (i : ℕ) (d : A) → HoldsOf (λ x. p x ≡ true) xs i → p (get_or xs i d) ≡ true
  place_passes [] i d h = absurd h
  place_passes (x ∷ xs) zero d h = h
  place_passes (x ∷ xs) (suc i) d h = place_passes xs i d h

  place_before : (xs : List A) (i k : ℕ) (d : A) → AreAlone p xs → HoldsOf (λ x. p x ≡ true) xs i → k < i → p (get_or xs k d) ≡ false
  place_before [] i k d a h less = absurd h
  place_before (x ∷ xs) zero k d a h less = absurd (omega arith)
  place_before (x ∷ xs) (suc i) zero d a h less = go (p x) refl
    where
      go : (b : Bool) → p x ≡ b → p x ≡ false
      go true e = absurd (none_passes p xs i (a.0 e) h)
      go false e = e
  place_before (x ∷ xs) (suc i) (suc k) d a h less = place_before xs i k d a.1 h (omega arith)

  pub place_is : (xs : List A) (i : ℕ) (d : A) → AreAlone p xs → HoldsOf (λ x. p x ≡ true) xs i → position p xs ≡ Some i
  place_is xs i d a h = position_is p xs i d (record { within = place_bound xs i h; passes = place_passes xs i d h; before = λ k less. place_before xs i k d a h less })

module _ {Z : Type 0} where
  length-contents : (bs : List (Box Held Z)) → length (contents bs) ≡ length bs
  length-contents [] = refl
  length-contents (b ∷ bs) = ap suc (length-contents bs)

  pub room_stands : (n : ℕ) (bs : List (Box Held Z)) (i : ℕ) (d : Box Held Z) → IsInOrder is_numbered_before (contents bs) → HoldsOf (λ c. (c.number == n) ≡ true) (contents bs) i
      → FitsLog n (contents bs) (rooms_of bs) → 0 < room_in (get_or bs i d).value
  room_stands n bs i d order h fits =
      let bound : i < length (contents bs) = place_bound (λ c. c.number == n) (contents bs) i h in
      let low : i < length bs = subst (λ m. i < m) (length-contents bs) bound in
      subst (λ m. 0 < m) (room_at bs i d low) (fits i (place_is (λ c. c.number == n) (contents bs) i (container_in d.value) (numbers_alone n (contents bs) order) h))

  pub room_made : (n : ℕ) (bs : List (Box Held Z)) (i : ℕ) (w : Box Held Z) (cs : List Container) → IsInOrder is_numbered_before (contents bs) → HoldsOf (λ c. (c.number == n) ≡ true) (contents bs) i
      → cs ≡ contents bs → 0 < room_in w.value → FitsLog n cs (rooms_of (set bs i w))
  room_made n bs i w cs order h e room j at =
      let bound : i < length (contents bs) = place_bound (λ c. c.number == n) (contents bs) i h in
      let low : i < length bs = subst (λ m. i < m) (length-contents bs) bound in
      let here : position (λ c. c.number == n) (contents bs) ≡ Some i = place_is (λ c. c.number == n) (contents bs) i (container_in w.value) (numbers_alone n (contents bs) order) h in
      let there : position (λ c. c.number == n) (contents bs) ≡ Some j = ap (position (λ (c : Container). c.number == n)) (sym e) ∙ at in
      let both : Some i ≡ Some j = sym here ∙ there in
      let same : i ≡ j = cc in
      subst (λ k. 0 < slice_index (rooms_of (set bs i w)) k) same (subst (λ m. 0 < m) (sym (room_set bs i w low)) room)

-- ---- where no container has the number

pub unnumbered : (n : ℕ) (cs ds : List Container) (i : ℕ) → cs ≡ ds → Parts (λ c. nat_cmp c.number n ≡ Less) (λ c. nat_cmp c.number n ≡ Greater) cs i → AllByRecursion (λ c. (c.number == n) ≡ false) ds
unnumbered n cs ds i e parts = subst (λ (es : List Container). AllByRecursion (λ c. (c.number == n) ≡ false) es) e (no_number n cs i parts)

pub fits_none : (n : ℕ) (cs : List Container) (rooms : List ℕ) → AllByRecursion (λ c. (c.number == n) ≡ false) cs → FitsLog n cs rooms
fits_none n cs rooms a i e =
    let none : position (λ c. c.number == n) cs ≡ None = no_position (λ c. c.number == n) cs (record { at = λ k d less. all_at (λ c. (c.number == n) ≡ false) cs k d a less }) in
    let is : None ≡ Some i = sym none ∙ e in absurd (cc)

pub rooms_all : (n : ℕ) (cs : List Container) (rooms : List ℕ) → AllByRecursion (λ c. (c.number == n) ≡ false) cs → rooms_without n cs rooms ≡ rooms
rooms_all n [] rooms a = refl
rooms_all n (c ∷ cs) [] a = refl
rooms_all n (c ∷ cs) (r ∷ rooms) a = rw a.0 (ap (λ l. r ∷ l) (rooms_all n cs rooms a.1))

pub rooms_unused : (n : ℕ) (cs : List Container) (rooms : List ℕ) → AllByRecursion (λ c. (c.number == n) ≡ false) cs → rooms_used n cs rooms ≡ rooms
rooms_unused n [] rooms a = refl
rooms_unused n (c ∷ cs) [] a = refl
rooms_unused n (c ∷ cs) (r ∷ rooms) a = rw a.0 (ap (λ l. r ∷ l) (rooms_unused n cs rooms a.1))

module _ {A : Type 0} (p : A → Bool) where
  pub update_none : (f : A → A) (xs : List A) → AllByRecursion (λ x. p x ≡ false) xs → update_first p f xs ≡ xs
  update_none f [] a = refl
  update_none f (x ∷ xs) a = rw a.0 (ap (λ l. x ∷ l) (update_none f xs a.1))

  pub remove_none : (xs : List A) → AllByRecursion (λ x. p x ≡ false) xs → remove_first p xs ≡ xs
  remove_none [] a = refl
  remove_none (x ∷ xs) a = rw a.0 (ap (λ l. x ∷ l) (remove_none xs a.1))

pub numbers_removed : (n : ℕ) (cs : List Container) (i : ℕ) → IsInOrder is_numbered_before cs → HoldsOf (λ c. (c.number == n) ≡ true) cs i → remove (numbers_of cs) i ≡ numbers_of (without n cs)
numbers_removed n cs i order h = remove_at (λ (c : Container). c.number) (λ c. c.number == n) cs i (numbers_alone n cs order) h

pub numbers_appended : (cs : List Container) (c : Container) → numbers_of (cs ++ c ∷ []) ≡ numbers_of cs ++ c.number ∷ []
numbers_appended [] c = refl
numbers_appended (x ∷ xs) c = ap (λ l. x.number ∷ l) (numbers_appended xs c)
