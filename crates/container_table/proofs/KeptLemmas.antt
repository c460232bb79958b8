-- What a change of the containers keeps of their order and their indexes.
use Rattle.std.proofs.Common.{◌≡◌, ℕ, ◌<◌, Bool, true, false, if◌then◌else◌, List, [], ◌∷◌, ◌++◌, map, Some, None, find, refl, sym, ◌∙◌, subst, ap, arith}
use Rattle.std.specs.Prelude.{◌==◌}
use Rattle.std.specs.List.{AllByRecursion}
use Rattle.std.proofs.lemmas.Bool.Decides.{nat_tests}
use Rattle.engine_text.specs.declared.container.Container.{Container}
use Rattle.engine_text.specs.Texts.{same_bytes}
use Rattle.container_table.specs.Lists.{remove_first, update_first}
use Rattle.container_table.specs.Order.{IsInOrder, are_apart, AreApart}
use Rattle.container_table.specs.declared.entries.Key.{Key}
use Rattle.container_table.specs.declared.entries.Entry.{Entry}
use Rattle.container_table.specs.declared.boxes.Boxes.{Boxes}
use Rattle.container_table.specs.Held.{contents, numbers_of, IsBoxed, key_text, entry_of, is_numbered_before, is_sorted_before, sorted_by, IsIndex, IsFresh}
use Rattle.container_table.proofs.PlacedLemmas.{all_append, all_removed, in_order_changed}
use Rattle.container_table.proofs.HeldLemmas.{text_order, numbers_alone}

module _ {A : Type 0} where
  pub none_all : (p : A → Bool) (xs : List A) → find p xs ≡ None → AllByRecursion (λ x. p x ≡ false) xs
  none_all p [] e = tt
  none_all p (x ∷ xs) e = go (p x) refl e (none_all p xs)
    where
      go : (b : Bool) → p x ≡ b → (if b then Some x else find p xs) ≡ None → (find p xs ≡ None → AllByRecursion (λ x. p x ≡ false) xs) → AllByRecursion (λ x. p x ≡ false) (x ∷ xs)
      go true f e more = absurd (cc)
      go false f e more = (f, more e)

  module _ (before : A → A → Bool) where
    pub in_order_less : (p : A → Bool) (xs : List A) → IsInOrder before xs → IsInOrder before (remove_first p xs)
    in_order_less p [] h = tt
    in_order_less p (x ∷ xs) h = go (p x) (in_order_less p xs h.1)
      where
        go : (b : Bool) → IsInOrder before (remove_first p xs) → IsInOrder before (if b then xs else x ∷ remove_first p xs)
        go true more = h.1
        go false more = (all_removed (λ y. before x y ≡ true) p xs h.0, more)

    module _ (p : A → Bool) (f : A → A) (left : (y z : A) → before (f y) z ≡ before y z) (right : (y z : A) → before y (f z) ≡ before y z) where
      all_kept : (x : A) (xs : List A) → AllByRecursion (λ y. before x y ≡ true) xs → AllByRecursion (λ y. before x y ≡ true) (update_first p f xs)
      all_kept x [] h = tt
      all_kept x (y ∷ ys) h = go (p y) (all_kept x ys h.1)
        where
          go : (b : Bool) → AllByRecursion (λ z. before x z ≡ true) (update_first p f ys) → AllByRecursion (λ z. before x z ≡ true) (if b then f y ∷ ys else y ∷ update_first p f ys)
          go true more = (right x y ∙ h.0, h.1)
          go false more = (h.0, more)

      all_from : (x : A) (xs : List A) → AllByRecursion (λ y. before x y ≡ true) xs → AllByRecursion (λ y. before (f x) y ≡ true) xs
      all_from x [] h = tt
      all_from x (y ∷ ys) h = (left x y ∙ h.0, all_from x ys h.1)

      pub in_order_kept : (xs : List A) → IsInOrder before xs → IsInOrder before (update_first p f xs)
      in_order_kept [] h = tt
      in_order_kept (x ∷ xs) h = go (p x) (in_order_kept xs h.1)
        where
          go : (b : Bool) → IsInOrder before (update_first p f xs) → IsInOrder before (if b then f x ∷ xs else x ∷ update_first p f xs)
          go true more = (all_from x xs h.0, h.1)
          go false more = (all_kept x xs h.0, more)

      apart_is : (y z : A) → are_apart before (f y) z ≡ are_apart before y z
      apart_is y z = rw (left y z, right z y) refl

      apart_is' : (y z : A) → are_apart before y (f z) ≡ are_apart before y z
      apart_is' y z = rw (left z y, right y z) refl

      each_kept : (x : A) (xs : List A) → AllByRecursion (λ y. are_apart before x y ≡ true) xs → AllByRecursion (λ y. are_apart before x y ≡ true) (update_first p f xs)
      each_kept x [] h = tt
      each_kept x (y ∷ ys) h = go (p y) (each_kept x ys h.1)
        where
          go : (b : Bool) → AllByRecursion (λ z. are_apart before x z ≡ true) (update_first p f ys) → AllByRecursion (λ z. are_apart before x z ≡ true) (if b then f y ∷ ys else y ∷ update_first p f ys)
          go true more = (apart_is' x y ∙ h.0, h.1)
          go false more = (h.0, more)

      each_from : (x : A) (xs : List A) → AllByRecursion (λ y. are_apart before x y ≡ true) xs → AllByRecursion (λ y. are_apart before (f x) y ≡ true) xs
      each_from x [] h = tt
      each_from x (y ∷ ys) h = (apart_is x y ∙ h.0, each_from x ys h.1)

      pub apart_kept : (xs : List A) → AreApart before xs → AreApart before (update_first p f xs)
      apart_kept [] h = tt
      apart_kept (x ∷ xs) h = go (p x) (apart_kept xs h.1)
        where
          go : (b : Bool) → AreApart before (update_first p f xs) → AreApart before (if b then f x ∷ xs else x ∷ update_first p f xs)
          go true more = (each_from x xs h.0, h.1)
          go false more = (each_kept x xs h.0, more)

module _ {A B : Type 0} (g : A → B) where
  pub map_kept : (p : A → Bool) (f : A → A) → ((x : A) → g (f x) ≡ g x) → (xs : List A) → map g (update_first p f xs) ≡ map g xs
  map_kept p f same [] = refl
  map_kept p f same (x ∷ xs) = go (p x) (map_kept p f same xs)
    where
      go : (b : Bool) → map g (update_first p f xs) ≡ map g xs → map g (if b then f x ∷ xs else x ∷ update_first p f xs) ≡ map g (x ∷ xs)
      go true e = ap (λ y. y ∷ map g xs) (same x)
      go false e = ap (λ l. g x ∷ l) e

-- ---- containers

is_below : (c d : Container) → d.number < c.number → is_numbered_before d c ≡ true
is_below c d e = grind (arith, nat_tests)

pub numbers_more : (cs : List Container) (c : Container) → IsInOrder is_numbered_before cs → AllByRecursion (λ d. d.number < c.number) cs → IsInOrder is_numbered_before (cs ++ c ∷ [])
numbers_more [] c h a = (tt, tt)
numbers_more (x ∷ xs) c h a = (all_append (λ d. is_numbered_before x d ≡ true) xs c h.0 (is_below c x a.0), numbers_more xs c h.1 a.1)

-- an index stays as it is where neither text nor number changes
pub index_kept : (key : Key) (n : ℕ) (f : Container → Container) (cs : List Container) (entries : List Entry)
    → ((c : Container) → key_text key (f c) ≡ key_text key c) → ((c : Container) → (f c).number ≡ c.number)
    → IsInOrder is_numbered_before cs → IsIndex key cs entries → IsIndex key (update_first (λ c. c.number == n) f cs) entries
index_kept key n f cs entries text number order index = record {
  apart = apart_kept (is_sorted_before key) (λ c. c.number == n) f left right cs index.apart;
  is =
      index.is ∙ sym (map_kept (entry_of key) (λ c. c.number == n) f same (sorted_by key cs))
      ∙ ap (map (entry_of key)) (sym (in_order_changed (is_sorted_before key) (text_order key) (λ c. c.number == n) f left right (λ c. ap (λ m. m == n) (number c)) cs (numbers_alone n cs order)));
}
  where
    left : (y z : Container) → is_sorted_before key (f y) z ≡ is_sorted_before key y z
    left y z = rw (text y) refl

    right : (y z : Container) → is_sorted_before key y (f z) ≡ is_sorted_before key y z
    right y z = rw (text z) refl

    same : (c : Container) → entry_of key (f c) ≡ entry_of key c
    same c = rw (text c, number c) refl

pub numbers_kept : (n : ℕ) (f : Container → Container) (cs : List Container) → ((c : Container) → (f c).number ≡ c.number) → IsInOrder is_numbered_before cs
    → IsInOrder is_numbered_before (update_first (λ c. c.number == n) f cs)
numbers_kept n f cs number order = in_order_kept is_numbered_before (λ c. c.number == n) f (λ y z. rw (number y) refl) (λ y z. rw (number z) refl) cs order

pub fresh_for : (key : Key) (text : List ℕ) (cs ds : List Container) → cs ≡ ds → find (λ c. same_bytes (key_text key c) text) ds ≡ None → IsFresh key text cs
fresh_for key text cs ds e none = none_all (λ c. same_bytes (key_text key c) text) cs (ap (find (λ c. same_bytes (key_text key c) text)) e ∙ none)

-- numbers stay beside the boxes where none changes
pub boxed_kept : (n : ℕ) (f : Container → Container) (old new : Boxes) → ((c : Container) → (f c).number ≡ c.number) → IsBoxed old → new.numbers ≡ old.numbers
    → contents new.list.items ≡ update_first (λ c. c.number == n) f (contents old.list.items) → IsBoxed new
boxed_kept n f old new number boxed same e = record {
  order = subst (λ (cs : List Container). IsInOrder is_numbered_before cs) (sym e) (numbers_kept n f (contents old.list.items) number boxed.order);
  numbers =
      ap (λ v. v.items) same ∙ boxed.numbers ∙ sym (map_kept (λ (c : Container). c.number) (λ c. c.number == n) f number (contents old.list.items))
      ∙ ap numbers_of (sym e);
}
