-- Items placed behind those that come before them, and lists in that order.
use Rattle.std.proofs.Common.{◌≡◌, suc, Bool, true, false, if◌then◌else◌, List, [], ◌∷◌, ◌++◌, length, Some, find, ◌||◌, refl, sym, ◌∙◌, subst, ap}
use Rattle.std.specs.List.{AllByRecursion}
use Rattle.std.specs.Cmp.{IsStrictWeakOrder}
use Rattle.container_table.specs.Lists.{placed, remove_first, update_first}
use Rattle.container_table.specs.Order.{in_order, IsInOrder, are_apart, AreApart}

module _ {A : Type 0} where
  pub all_imp : (P Q : A → Type 0) → ((x : A) → P x → Q x) → (xs : List A) → AllByRecursion P xs → AllByRecursion Q xs
  all_imp P Q f [] h = tt
  all_imp P Q f (x ∷ xs) h = (f x h.0, all_imp P Q f xs h.1)

  pub all_append : (P : A → Type 0) (xs : List A) (y : A) → AllByRecursion P xs → P y → AllByRecursion P (xs ++ y ∷ [])
  all_append P [] y h e = (e, tt)
  all_append P (x ∷ xs) y h e = (h.0, all_append P xs y h.1 e)

  pub all_removed : (P : A → Type 0) (p : A → Bool) (xs : List A) → AllByRecursion P xs → AllByRecursion P (remove_first p xs)
  all_removed P p [] h = tt
  all_removed P p (x ∷ xs) h = go (p x) (all_removed P p xs h.1)
    where
      go : (b : Bool) → AllByRecursion P (remove_first p xs) → AllByRecursion P (if b then xs else x ∷ remove_first p xs)
      go true more = h.1
      go false more = (h.0, more)

module _ {A : Type 0} where
  -- what holds of each holds of what is found
  pub all_found : (P : A → Type 0) (p : A → Bool) (xs : List A) (c : A) → AllByRecursion P xs → find p xs ≡ Some c → P c
  all_found P p [] c h e = absurd (cc)
  all_found P p (x ∷ xs) c h e = go (p x) e (all_found P p xs c h.1)
    where
      go : (b : Bool) → (if b then Some x else find p xs) ≡ Some c → (find p xs ≡ Some c → P c) → P c
      go true e more = let is : x ≡ c = cc in subst P is h.0
      go false e more = more e

  pub all_changed : (P : A → Type 0) (p : A → Bool) (f : A → A) (xs : List A) (c : A) → AllByRecursion P xs → find p xs ≡ Some c → P (f c) → AllByRecursion P (update_first p f xs)
  all_changed P p f [] c h e g = tt
  all_changed P p f (x ∷ xs) c h e g = go (p x) e (λ e. all_changed P p f xs c h.1 e g)
    where
      go : (b : Bool) → (if b then Some x else find p xs) ≡ Some c → (find p xs ≡ Some c → AllByRecursion P (update_first p f xs)) → AllByRecursion P (if b then f x ∷ xs else x ∷ update_first p f xs)
      go true e more = let is : c ≡ x = cc in (subst (λ y. P (f y)) is g, h.1)
      go false e more = (h.0, more e)

-- no item passes behind one that passes
abbrev pub AreAlone : {A : Type 0} → (A → Bool) → List A → Type 0
AreAlone p [] = Unit {0}
AreAlone p (x ∷ xs) = (p x ≡ true → AllByRecursion (λ y. p y ≡ false) xs) × AreAlone p xs

module _ {A : Type 0} (before : A → A → Bool) where
  -- ---- what holds of each

  pub all_placed : (P : A → Type 0) (x : A) (l : List A) → P x → AllByRecursion P l → AllByRecursion P (placed before x l)
  all_placed P x [] e h = (e, tt)
  all_placed P x (y ∷ ys) e h = go (before y x) (all_placed P x ys e h.1)
    where
      go : (b : Bool) → AllByRecursion P (placed before x ys) → AllByRecursion P (if b then y ∷ placed before x ys else x ∷ y ∷ ys)
      go true more = (h.0, more)
      go false more = (e, h)

  pub all_in_order : (P : A → Type 0) (xs : List A) → AllByRecursion P xs → AllByRecursion P (in_order before xs)
  all_in_order P [] h = tt
  all_in_order P (x ∷ xs) h = all_placed P x (in_order before xs) h.0 (all_in_order P xs h.1)

  placed_back : (P : A → Type 0) (x : A) (l : List A) → AllByRecursion P (placed before x l) → P x × AllByRecursion P l
  placed_back P x [] h = (h.0, tt)
  placed_back P x (y ∷ ys) h = go (before y x) h (placed_back P x ys)
    where
      go : (b : Bool) → AllByRecursion P (if b then y ∷ placed before x ys else x ∷ y ∷ ys) → (AllByRecursion P (placed before x ys) → P x × AllByRecursion P ys) → P x × AllByRecursion P (y ∷ ys)
      go true h more = let rest = more h.1 in (rest.0, (h.0, rest.1))
      go false h more = (h.0, h.1)

  pub in_order_back : (P : A → Type 0) (xs : List A) → AllByRecursion P (in_order before xs) → AllByRecursion P xs
  in_order_back P [] h = tt
  in_order_back P (x ∷ xs) h = let both = placed_back P x (in_order before xs) h in (both.0, in_order_back P xs both.1)

  pub length-placed : (x : A) (l : List A) → length (placed before x l) ≡ suc (length l)
  length-placed x [] = refl
  length-placed x (y ∷ ys) = go (before y x) (length-placed x ys)
    where
      go : (b : Bool) → length (placed before x ys) ≡ suc (length ys) → length (if b then y ∷ placed before x ys else x ∷ y ∷ ys) ≡ suc (suc (length ys))
      go true e = ap suc e
      go false e = refl

  pub length-in_order : (xs : List A) → length (in_order before xs) ≡ length xs
  length-in_order [] = refl
  length-in_order (x ∷ xs) = length-placed x (in_order before xs) ∙ ap suc (length-in_order xs)

  -- ---- what passes alone

  alone_placed : (p : A → Bool) (x : A) (l : List A) → AreAlone p l → (p x ≡ true → AllByRecursion (λ y. p y ≡ false) l) → AreAlone p (placed before x l)
  alone_placed p x [] a e = (λ f. tt, tt)
  alone_placed p x (y ∷ ys) a e = go (before y x) (alone_placed p x ys a.1 (λ f. (e f).1))
    where
      passes_not : (b : Bool) → p x ≡ b → p y ≡ true → p x ≡ false
      passes_not false f g = f
      passes_not true f g = let un : p y ≡ false = (e f).0 in absurd (cc)

      go : (b : Bool) → AreAlone p (placed before x ys) → AreAlone p (if b then y ∷ placed before x ys else x ∷ y ∷ ys)
      go true more = (λ f. all_placed (λ z. p z ≡ false) x ys (passes_not (p x) refl f) (a.0 f), more)
      go false more = (e, a)

  pub alone_in_order : (p : A → Bool) (xs : List A) → AreAlone p xs → AreAlone p (in_order before xs)
  alone_in_order p [] a = tt
  alone_in_order p (x ∷ xs) a = alone_placed p x (in_order before xs) (alone_in_order p xs a.1) (λ e. all_in_order (λ y. p y ≡ false) xs (a.0 e))

  -- ---- items that are apart

  pub apart_append : (xs : List A) (y : A) → AreApart before xs → AllByRecursion (λ x. are_apart before x y ≡ true) xs → AreApart before (xs ++ y ∷ [])
  apart_append [] y h g = (tt, tt)
  apart_append (x ∷ xs) y h g = (all_append (λ z. are_apart before x z ≡ true) xs y h.0 g.0, apart_append xs y h.1 g.1)

  pub apart_removed : (p : A → Bool) (xs : List A) → AreApart before xs → AreApart before (remove_first p xs)
  apart_removed p [] h = tt
  apart_removed p (x ∷ xs) h = go (p x) (apart_removed p xs h.1)
    where
      go : (b : Bool) → AreApart before (remove_first p xs) → AreApart before (if b then xs else x ∷ remove_first p xs)
      go true more = h.1
      go false more = (all_removed (λ z. are_apart before x z ≡ true) p xs h.0, more)

  pub apart_changed : (p : A → Bool) (f : A → A) (xs : List A) (c : A) → AreApart before xs → find p xs ≡ Some c → AllByRecursion (λ y. are_apart before (f c) y ≡ true) xs
      → AllByRecursion (λ y. are_apart before y (f c) ≡ true) xs → AreApart before (update_first p f xs)
  apart_changed p f [] c h e g k = tt
  apart_changed p f (x ∷ xs) c h e g k = go (p x) e (λ e. apart_changed p f xs c h.1 e g.1 k.1)
    where
      go : (b : Bool) → (if b then Some x else find p xs) ≡ Some c → (find p xs ≡ Some c → AreApart before (update_first p f xs)) → AreApart before (if b then f x ∷ xs else x ∷ update_first p f xs)
      go true e more = let is : c ≡ x = cc in (subst (λ y. AllByRecursion (λ z. are_apart before (f y) z ≡ true) xs) is g.1, h.1)
      go false e more = (all_changed (λ z. are_apart before x z ≡ true) p f xs c h.0 e k.0, more e)

module _ {A : Type 0} (before : A → A → Bool) (o : IsStrictWeakOrder before) where
  -- ---- the order

  pub chained : (x y z : A) → before x y ≡ true → before y z ≡ true → before x z ≡ true
  chained x y z e f = go (before x z) refl
    where
      go : (b : Bool) → before x z ≡ b → before x z ≡ true
      go true g = g
      go false g = let no : before x y ≡ false = o.chain x z y g (o.one_way y z f) in absurd (cc)

  pub flipped : (x y : A) → are_apart before x y ≡ true → before x y ≡ false → before y x ≡ true
  flipped x y a e = let h : (before x y || before y x) ≡ true = a in rw e at h

  -- what x doesn't come behind of comes before all that come behind x
  pub all_behind : (x y : A) (ys : List A) → before x y ≡ true → AllByRecursion (λ z. before y z ≡ true) ys → AllByRecursion (λ z. before x z ≡ true) ys
  all_behind x y ys e h = all_imp (λ z. before y z ≡ true) (λ z. before x z ≡ true) (λ z f. chained x y z e f) ys h

  -- ---- in order

  pub placed_is_in_order : (x : A) (l : List A) → IsInOrder before l → AllByRecursion (λ y. are_apart before x y ≡ true) l → IsInOrder before (placed before x l)
  placed_is_in_order x [] h a = (tt, tt)
  placed_is_in_order x (y ∷ ys) h a = go (before y x) refl (placed_is_in_order x ys h.1 a.1)
    where
      go : (b : Bool) → before y x ≡ b → IsInOrder before (placed before x ys) → IsInOrder before (if b then y ∷ placed before x ys else x ∷ y ∷ ys)
      go true e more = (all_placed before (λ z. before y z ≡ true) x ys e h.0, more)
      go false e more =
          let first : before x y ≡ true = flip_second (before x y) (before y x) a.0 e in
          ((first, all_behind x y ys first h.0), h)
        where
          flip_second : (b c : Bool) → (b || c) ≡ true → c ≡ false → b ≡ true
          flip_second true c f g = refl
          flip_second false c f g = absurd (cc)

  pub ordered : (xs : List A) → AreApart before xs → IsInOrder before (in_order before xs)
  ordered [] h = tt
  ordered (x ∷ xs) h = placed_is_in_order x (in_order before xs) (ordered xs h.1) (all_in_order before (λ y. are_apart before x y ≡ true) xs h.0)

  -- ---- two are placed in either order

  tween : (z y x : A) → before z x ≡ true → before z y ≡ false → before y x ≡ true
  tween z y x e f = go (before y x) refl
    where
      go : (b : Bool) → before y x ≡ b → before y x ≡ true
      go true g = g
      go false g = let no : before z x ≡ false = o.chain z y x f g in absurd (cc)

  or_comm : (a b : Bool) → (a || b) ≡ true → (b || a) ≡ true
  or_comm true true e = refl
  or_comm true false e = refl
  or_comm false true e = refl
  or_comm false false e = e

  swap_step : (x y z : A) (zs : List A) (p q r s : Bool) → before z x ≡ p → before z y ≡ q → before y x ≡ r → before x y ≡ s → (r || s) ≡ true
      → placed before x (placed before y zs) ≡ placed before y (placed before x zs)
      → placed before x (if q then z ∷ placed before y zs else y ∷ z ∷ zs) ≡ placed before y (if p then z ∷ placed before x zs else x ∷ z ∷ zs)
  swap_step x y z zs true true r s e f g h a more = rw (e, f) (ap (λ l. z ∷ l) more)
  swap_step x y z zs true false r s e f g h a more = rw (tween z y x e f, e, f) refl
  swap_step x y z zs false true r s e f g h a more = rw (tween z x y f e, e, f) refl
  swap_step x y z zs false false true s e f g h a more = rw (g, o.one_way y x g, e) refl
  swap_step x y z zs false false false s e f g h a more = rw (g, h ∙ a, f) refl

  pub placed_swap : (x y : A) (l : List A) → are_apart before x y ≡ true → placed before x (placed before y l) ≡ placed before y (placed before x l)
  placed_swap x y [] a = alone (before y x) refl
    where
      alone : (b : Bool) → before y x ≡ b → placed before x (y ∷ []) ≡ placed before y (x ∷ [])
      alone true e = rw (e, o.one_way y x e) refl
      alone false e = rw (e, flipped y x (or_comm (before x y) (before y x) a) e) refl
  placed_swap x y (z ∷ zs) a =
      swap_step x y z zs (before z x) (before z y) (before y x) (before x y) refl refl refl refl (or_comm (before x y) (before y x) a) (placed_swap x y zs a)

  -- an item more at the end is placed
  pub in_order_append : (xs : List A) (y : A) → AllByRecursion (λ x. are_apart before x y ≡ true) xs → in_order before (xs ++ y ∷ []) ≡ placed before y (in_order before xs)
  in_order_append [] y h = refl
  in_order_append (x ∷ xs) y h = ap (placed before x) (in_order_append xs y h.1) ∙ placed_swap x y (in_order before xs) h.0

  -- ---- what is taken out

  pub removed_same : (p : A → Bool) (x : A) (l : List A) → p x ≡ true → AllByRecursion (λ y. p y ≡ false) l → remove_first p (placed before x l) ≡ l
  removed_same p x [] e h = rw e refl
  removed_same p x (y ∷ ys) e h = go (before y x) (removed_same p x ys e h.1)
    where
      go : (b : Bool) → remove_first p (placed before x ys) ≡ ys → remove_first p (if b then y ∷ placed before x ys else x ∷ y ∷ ys) ≡ y ∷ ys
      go true more = rw h.0 (ap (λ l. y ∷ l) more)
      go false more = rw e refl

  -- an item that doesn't come behind the first is placed before it
  placed_first : (x : A) (l : List A) → AllByRecursion (λ y. before y x ≡ false) l → placed before x l ≡ x ∷ l
  placed_first x [] h = refl
  placed_first x (y ∷ ys) h = rw h.0 refl

  pub removed_other : (p : A → Bool) (x : A) (l : List A) → p x ≡ false → IsInOrder before l → remove_first p (placed before x l) ≡ placed before x (remove_first p l)
  removed_other p x [] e h = rw e refl
  removed_other p x (y ∷ ys) e h = go (before y x) (p y) refl refl (removed_other p x ys e h.1)
    where
      go : (b c : Bool) → before y x ≡ b → p y ≡ c → remove_first p (placed before x ys) ≡ placed before x (remove_first p ys)
          → remove_first p (if b then y ∷ placed before x ys else x ∷ y ∷ ys) ≡ placed before x (if c then ys else y ∷ remove_first p ys)
      go true true f g more = rw g refl
      go true false f g more = rw (g, f) (ap (λ l. y ∷ l) more)
      go false true f g more = rw (e, g) (sym (placed_first x ys (all_imp (λ z. before y z ≡ true) (λ z. before z x ≡ false) (λ z q. behind z q) ys h.0)))
        where
          behind : (z : A) → before y z ≡ true → before z x ≡ false
          behind z q = o.chain z y x (o.one_way y z q) f
      go false false f g more = rw (e, g, f) refl

  -- what was taken out of a list is taken out of its order, where no two pass
  pub in_order_remove : (p : A → Bool) (xs : List A) → AreApart before xs → AreAlone p xs → in_order before (remove_first p xs) ≡ remove_first p (in_order before xs)
  in_order_remove p [] h a = refl
  in_order_remove p (x ∷ xs) h a = go (p x) refl a (in_order_remove p xs h.1)
    where
      go : (b : Bool) → p x ≡ b → AreAlone p (x ∷ xs) → (AreAlone p xs → in_order before (remove_first p xs) ≡ remove_first p (in_order before xs))
          → in_order before (if b then xs else x ∷ remove_first p xs) ≡ remove_first p (placed before x (in_order before xs))
      go true e alone more = sym (removed_same p x (in_order before xs) e (all_in_order before (λ y. p y ≡ false) xs (alone.0 e)))
      go false e alone more = ap (placed before x) (more alone.1) ∙ sym (removed_other p x (in_order before xs) e (ordered xs h.1))

  -- ---- what is changed without its place

  pub placed_changed : (p : A → Bool) (f : A → A) → ((y z : A) → before (f y) z ≡ before y z) → ((y z : A) → before y (f z) ≡ before y z) → ((y : A) → p (f y) ≡ p y)
      → (x : A) (l : List A) → p x ≡ false → update_first p f (placed before x l) ≡ placed before x (update_first p f l)
  placed_changed p f left right same x [] e = rw e refl
  placed_changed p f left right same x (y ∷ ys) e = go (before y x) (p y) refl refl (placed_changed p f left right same x ys e)
    where
      go : (b c : Bool) → before y x ≡ b → p y ≡ c → update_first p f (placed before x ys) ≡ placed before x (update_first p f ys)
          → update_first p f (if b then y ∷ placed before x ys else x ∷ y ∷ ys) ≡ placed before x (if c then f y ∷ ys else y ∷ update_first p f ys)
      go true true b c more = rw (c, left, b) refl
      go true false b c more = rw (c, b) (ap (λ l. y ∷ l) more)
      go false true b c more = rw (e, c, left, b) refl
      go false false b c more = rw (e, c, b) refl

  pub changed_placed : (p : A → Bool) (f : A → A) → ((y z : A) → before (f y) z ≡ before y z) → ((y z : A) → before y (f z) ≡ before y z)
      → (x : A) (l : List A) → p x ≡ true → AllByRecursion (λ y. p y ≡ false) l → update_first p f (placed before x l) ≡ placed before (f x) l
  changed_placed p f left right x [] e h = rw e refl
  changed_placed p f left right x (y ∷ ys) e h = go (before y x) refl (changed_placed p f left right x ys e h.1)
    where
      go : (b : Bool) → before y x ≡ b → update_first p f (placed before x ys) ≡ placed before (f x) ys
          → update_first p f (if b then y ∷ placed before x ys else x ∷ y ∷ ys) ≡ placed before (f x) (y ∷ ys)
      go true b more = rw (h.0, right, b) (ap (λ l. y ∷ l) more)
      go false b more = rw (e, right, b) refl

  pub in_order_changed : (p : A → Bool) (f : A → A) → ((y z : A) → before (f y) z ≡ before y z) → ((y z : A) → before y (f z) ≡ before y z) → ((y : A) → p (f y) ≡ p y)
      → (xs : List A) → AreAlone p xs → in_order before (update_first p f xs) ≡ update_first p f (in_order before xs)
  in_order_changed p f left right same [] a = refl
  in_order_changed p f left right same (x ∷ xs) a = go (p x) refl a (in_order_changed p f left right same xs)
    where
      go : (b : Bool) → p x ≡ b → AreAlone p (x ∷ xs) → (AreAlone p xs → in_order before (update_first p f xs) ≡ update_first p f (in_order before xs))
          → in_order before (if b then f x ∷ xs else x ∷ update_first p f xs) ≡ update_first p f (placed before x (in_order before xs))
      go true e alone more = sym (changed_placed p f left right x (in_order before xs) e (all_in_order before (λ y. p y ≡ false) xs (alone.0 e)))
      go false e alone more = ap (placed before x) (more alone.1) ∙ sym (placed_changed p f left right same x (in_order before xs) e)

  -- ---- what is changed and goes to another place

  pub in_order_moved : (p : A → Bool) (f : A → A) (xs : List A) (c : A) → AreApart before xs → AreAlone p xs → find p xs ≡ Some c
      → AllByRecursion (λ y. are_apart before (f c) y ≡ true) xs
      → in_order before (update_first p f xs) ≡ placed before (f c) (remove_first p (in_order before xs))
  in_order_moved p f [] c h a found fresh = absurd (cc)
  in_order_moved p f (x ∷ xs) c h a found fresh = go (p x) refl a found (in_order_moved p f xs c h.1)
    where
      go : (b : Bool) → p x ≡ b → AreAlone p (x ∷ xs) → (if b then Some x else find p xs) ≡ Some c
          → (AreAlone p xs → find p xs ≡ Some c → AllByRecursion (λ y. are_apart before (f c) y ≡ true) xs
          → in_order before (update_first p f xs) ≡ placed before (f c) (remove_first p (in_order before xs)))
          → in_order before (if b then f x ∷ xs else x ∷ update_first p f xs) ≡ placed before (f c) (remove_first p (placed before x (in_order before xs)))
      go true e alone found more =
          let one : x ≡ c = cc in
          ap (λ y. placed before (f y) (in_order before xs)) one
          ∙ ap (placed before (f c)) (sym (removed_same p x (in_order before xs) e (all_in_order before (λ y. p y ≡ false) xs (alone.0 e))))
      go false e alone found more =
          ap (placed before x) (more alone.1 found fresh.1)
          ∙ placed_swap x (f c) (remove_first p (in_order before xs)) (or_comm (before (f c) x) (before x (f c)) fresh.0)
          ∙ ap (placed before (f c)) (sym (removed_other p x (in_order before xs) e (ordered xs h.1)))
