-- An index in which a container is put, from which it is taken, and in which it gets another name.
use Rattle.std.proofs.Common.{◌≡◌, ℕ, zero, suc, ◌+◌, ◌<◌, ◌≤◌, Bool, true, false, if◌then◌else◌, ◌||◌, List, [], ◌∷◌, ◌++◌, map, Some, Result, IsOk, is_ok, find, refl, sym, ◌∙◌, subst, ap, Ordering}
use Rattle.std.specs.Prelude.{◌==◌}
use Rattle.std.specs.List.{AllByRecursion, insert, remove}
use Rattle.std.specs.Ordering.{is_lt, ordering_reverse}
use Rattle.std.proofs.lemmas.Cmp.{nat_list_cmp_total}
use Rattle.std.specs.declared.cmp.Ordering.TheVariants.{Less, Equal, Greater}
use Rattle.engine_text.specs.declared.container.Container.{Container}
use Rattle.engine_text.specs.Texts.{same_bytes}
use Rattle.container_table.specs.Lists.{remove_first}
use Rattle.container_table.specs.Order.{IsInOrder, are_apart, AreApart}
use Rattle.container_table.specs.Search.{HoldsOf, Parts}
use Rattle.container_table.specs.Starts.{front}
use Rattle.container_table.specs.Tables.{numbered, without, renamed}
use Rattle.container_table.specs.declared.entries.Key.{Key}
use Rattle.container_table.specs.declared.entries.Key.TheVariants.{Name}
use Rattle.container_table.specs.declared.entries.Entry.{Entry}
use Rattle.container_table.specs.Held.{key_text, entry_of, is_numbered_before, is_sorted_before, sorted_by, IsIndex, IsFresh}
use Rattle.container_table.proofs.PlacedLemmas.{AreAlone, all_imp, all_in_order, in_order_back, all_found, alone_in_order, apart_append, apart_removed, apart_changed, in_order_append, in_order_remove, in_order_moved}
use Rattle.container_table.proofs.SearchLemmas.{none_passes, parts_removed, parts_imp, insert_at, remove_at, all_of_parts}
use Rattle.container_table.proofs.TextLemmas.{order, same_if_equal, other_if_less, other_if_greater}
use Rattle.container_table.proofs.HeldLemmas.{text_order, numbers_alone}

-- ---- texts that differ are apart

turned : (a b : List ℕ) → order a b ≡ Greater → order b a ≡ Less
turned a b e = nat_list_cmp_total.antisymm b a ∙ ap ordering_reverse e

pub apart_texts : (a b : List ℕ) → same_bytes a b ≡ false → (is_lt (order a b) || is_lt (order b a)) ≡ true
apart_texts a b e = go (order a b) refl
  where
    go : (o : Ordering) → order a b ≡ o → (is_lt o || is_lt (order b a)) ≡ true
    go Less f = refl
    go Equal f = let is : same_bytes a b ≡ true = same_if_equal a b f in absurd (cc)
    go Greater f = ap is_lt (turned a b f)

apart_back : (a b : List ℕ) → same_bytes a b ≡ false → (is_lt (order b a) || is_lt (order a b)) ≡ true
apart_back a b e = go (order a b) refl
  where
    other : (t : Bool) → (t || true) ≡ true
    other true = refl
    other false = refl

    go : (o : Ordering) → order a b ≡ o → (is_lt (order b a) || is_lt o) ≡ true
    go Less f = other (is_lt (order b a))
    go Equal f = let is : same_bytes a b ≡ true = same_if_equal a b f in absurd (cc)
    go Greater f = ap (λ o. is_lt o || false) (turned a b f)

differ_apart : (a b : List ℕ) → (is_lt (order a b) || is_lt (order b a)) ≡ true → same_bytes b a ≡ false
differ_apart a b e = go (order a b) refl e
  where
    go : (o : Ordering) → order a b ≡ o → (is_lt o || is_lt (order b a)) ≡ true → same_bytes b a ≡ false
    go Less f g = other_if_greater b a (nat_list_cmp_total.antisymm b a ∙ ap ordering_reverse f)
    go Equal f g =
        let back : order b a ≡ Equal = nat_list_cmp_total.antisymm b a ∙ ap ordering_reverse f in
        let is : is_lt (order b a) ≡ false = ap is_lt back in absurd (cc)
    go Greater f g = other_if_less b a (turned a b f)

differ_back : (a b : List ℕ) → (is_lt (order a b) || is_lt (order b a)) ≡ true → same_bytes a b ≡ false
differ_back a b e = go (order a b) refl e
  where
    go : (o : Ordering) → order a b ≡ o → (is_lt o || is_lt (order b a)) ≡ true → same_bytes a b ≡ false
    go Less f g = other_if_less a b f
    go Equal f g =
        let back : order b a ≡ Equal = nat_list_cmp_total.antisymm b a ∙ ap ordering_reverse f in
        let is : is_lt (order b a) ≡ false = ap is_lt back in absurd (cc)
    go Greater f g = other_if_greater a b f

-- before, and not before, a text
is_before_text : (key : Key) (c d : Container) → order (key_text key d) (key_text key c) ≡ Less → is_sorted_before key d c ≡ true
is_before_text key c d e = ap is_lt e

is_behind_text : (key : Key) (c d : Container) → order (key_text key d) (key_text key c) ≡ Greater → is_sorted_before key d c ≡ false
is_behind_text key c d e = ap is_lt e

-- ---- put in

pub filed : (key : Key) (cs : List Container) (c : Container) (entries more : List Entry) (i : ℕ) → IsIndex key cs entries → IsFresh key (key_text key c) cs
    → Parts (λ d. order (key_text key d) (key_text key c) ≡ Less) (λ d. order (key_text key d) (key_text key c) ≡ Greater) (sorted_by key cs) i
    → more ≡ insert entries i (entry_of key c) → IsIndex key (cs ++ c ∷ []) more
filed key cs c entries more i index fresh at put = record {
  apart = apart_append (is_sorted_before key) cs c index.apart apart;
  is =
      put ∙ ap (λ (es : List Entry). insert es i (entry_of key c)) index.is
      ∙ insert_at (entry_of key) (is_sorted_before key) c (sorted_by key cs) i
      (parts_imp (λ d. order (key_text key d) (key_text key c) ≡ Less) (λ d. order (key_text key d) (key_text key c) ≡ Greater) (λ d. is_sorted_before key d c ≡ true) (λ d. is_sorted_before key d c ≡ false)
      (sorted_by key cs) i (is_before_text key c) (is_behind_text key c) at)
      ∙ ap (map (entry_of key)) (sym (in_order_append (is_sorted_before key) (text_order key) cs c apart));
}
  where
    apart : AllByRecursion (λ d. are_apart (is_sorted_before key) d c ≡ true) cs
    apart = all_imp (λ d. same_bytes (key_text key d) (key_text key c) ≡ false) (λ d. are_apart (is_sorted_before key) d c ≡ true) (λ d e. apart_texts (key_text key d) (key_text key c) e) cs fresh

pub none_fresh : (key : Key) (cs : List Container) (text : List ℕ) (i : ℕ) → IsFresh key text cs → HoldsOf (λ d. same_bytes (key_text key d) text ≡ true) (sorted_by key cs) i → ⊥
none_fresh key cs text i fresh h =
    none_passes (λ d. same_bytes (key_text key d) text) (sorted_by key cs) i (all_in_order (is_sorted_before key) (λ d. same_bytes (key_text key d) text ≡ false) cs fresh) h

-- ---- taken out

-- a container that has the text of one that is held is that one
alike : (key : Key) (cs : List Container) (n : ℕ) (c : Container) → AreApart (is_sorted_before key) cs → find (λ d. d.number == n) cs ≡ Some c
    → AllByRecursion (λ d. same_bytes (key_text key d) (key_text key c) ≡ true → (d.number == n) ≡ true) cs
alike key [] n c h found = tt
alike key (x ∷ xs) n c h found = go (x.number == n) refl found (λ e. alike key xs n c h.1 e)
  where
    before : Container → Container → Bool
    before = is_sorted_before key

    go : (b : Bool) → (x.number == n) ≡ b → (if b then Some x else find (λ d. d.number == n) xs) ≡ Some c
        → (find (λ d. d.number == n) xs ≡ Some c → AllByRecursion (λ d. same_bytes (key_text key d) (key_text key c) ≡ true → (d.number == n) ≡ true) xs)
        → AllByRecursion (λ d. same_bytes (key_text key d) (key_text key c) ≡ true → (d.number == n) ≡ true) (x ∷ xs)
    go true e found more =
        let is : x ≡ c = cc in (
          λ _. e,
          all_imp (λ d. are_apart before x d ≡ true) (λ d. same_bytes (key_text key d) (key_text key c) ≡ true → (d.number == n) ≡ true)
              (λ d a same. let un : same_bytes (key_text key d) (key_text key c) ≡ false = subst (λ (y : Container). same_bytes (key_text key d) (key_text key y) ≡ false) is (differ_apart (key_text key x) (key_text key d) a) in absurd (cc)) xs h.0,
        )
    go false e found more =
        (λ same. let un : same_bytes (key_text key x) (key_text key c) ≡ false = differ_back (key_text key x) (key_text key c) (all_found (λ d. are_apart before x d ≡ true) (λ d. d.number == n) xs c h.0 found) in absurd (cc), more found)

pub holds_number : (key : Key) (cs : List Container) (n : ℕ) (c : Container) (i : ℕ) → AreApart (is_sorted_before key) cs → find (λ d. d.number == n) cs ≡ Some c
    → HoldsOf (λ d. same_bytes (key_text key d) (key_text key c) ≡ true) (sorted_by key cs) i → HoldsOf (λ d. (d.number == n) ≡ true) (sorted_by key cs) i
holds_number key cs n c i h found at =
    go (sorted_by key cs) i (all_in_order (is_sorted_before key) (λ d. same_bytes (key_text key d) (key_text key c) ≡ true → (d.number == n) ≡ true) cs (alike key cs n c h found)) at
  where
    go : (l : List Container) (i : ℕ) → AllByRecursion (λ d. same_bytes (key_text key d) (key_text key c) ≡ true → (d.number == n) ≡ true) l
        → HoldsOf (λ d. same_bytes (key_text key d) (key_text key c) ≡ true) l i → HoldsOf (λ d. (d.number == n) ≡ true) l i
    go [] i a at = at
    go (x ∷ xs) zero a at = a.0 at
    go (x ∷ xs) (suc i) a at = go xs i a.1 at

pub unfiled : (key : Key) (cs : List Container) (n : ℕ) (c : Container) (entries less : List Entry) (i : ℕ) → IsInOrder is_numbered_before cs → IsIndex key cs entries → numbered n cs ≡ Some c
    → HoldsOf (λ d. same_bytes (key_text key d) (key_text key c) ≡ true) (sorted_by key cs) i → less ≡ remove entries i → IsIndex key (without n cs) less
unfiled key cs n c entries less i numbers index found at out = record {
  apart = apart_removed (is_sorted_before key) (λ d. d.number == n) cs index.apart;
  is =
      out ∙ ap (λ (es : List Entry). remove es i) index.is
      ∙ remove_at (entry_of key) (λ d. d.number == n) (sorted_by key cs) i (alone_in_order (is_sorted_before key) (λ d. d.number == n) cs (numbers_alone n cs numbers)) (holds_number key cs n c i index.apart found at)
      ∙ ap (map (entry_of key)) (sym (in_order_remove (is_sorted_before key) (text_order key) (λ d. d.number == n) cs index.apart (numbers_alone n cs numbers)));
}

-- a container that is held isn't missed
same_itself : (a : List ℕ) → order a a ≡ Equal
same_itself a = level_itself (order a a) (nat_list_cmp_total.antisymm a a)
  where
    level_itself : (o : Ordering) → o ≡ ordering_reverse o → o ≡ Equal
    level_itself Less e = let is : true ≡ false = ap is_lt e in absurd (cc)
    level_itself Equal e = refl
    level_itself Greater e = let is : false ≡ true = ap is_lt e in absurd (cc)

pub held_below : (key : Key) (cs : List Container) (n : ℕ) (c : Container) (i : ℕ) → numbered n cs ≡ Some c
    → Parts (λ d. order (key_text key d) (key_text key c) ≡ Less) (λ d. order (key_text key d) (key_text key c) ≡ Greater) (sorted_by key cs) i → ⊥
held_below key cs n c i found h =
    let none : AllByRecursion (λ d. same_bytes (key_text key d) (key_text key c) ≡ false) (sorted_by key cs) =
    all_of_parts (λ d. order (key_text key d) (key_text key c) ≡ Less) (λ d. order (key_text key d) (key_text key c) ≡ Greater) (λ d. same_bytes (key_text key d) (key_text key c) ≡ false) (sorted_by key cs) i
    (λ d e. other_if_less (key_text key d) (key_text key c) e) (λ d e. other_if_greater (key_text key d) (key_text key c) e) h in
    let un : same_bytes (key_text key c) (key_text key c) ≡ false = all_found (λ d. same_bytes (key_text key d) (key_text key c) ≡ false) (λ d. d.number == n) cs c (in_order_back (is_sorted_before key) (λ d. same_bytes (key_text key d) (key_text key c) ≡ false) cs none) found in
    let is : same_bytes (key_text key c) (key_text key c) ≡ true = same_if_equal (key_text key c) (key_text key c) (same_itself (key_text key c)) in absurd (cc)

-- ---- under another name

pub refiled : (cs : List Container) (c : Container) (name : List ℕ) (entries moved : List Entry) (i j k : ℕ) → IsInOrder is_numbered_before cs → IsIndex Name cs entries → numbered c.number cs ≡ Some c
    → IsFresh Name name cs
    → HoldsOf (λ d. same_bytes d.name c.name ≡ true) (sorted_by Name cs) i
    → Parts (λ d. order d.name name ≡ Less) (λ d. order d.name name ≡ Greater) (sorted_by Name cs) j
    → (i < j → k + 1 ≡ j) → (j ≤ i → k ≡ j)
    → moved ≡ insert (remove entries i) k (record { start = front 8 name; number = c.number }) → IsIndex Name (renamed c.number name cs) moved
refiled cs c name entries moved i j k numbers index found fresh at to up down put = record {
  apart = apart_changed before p f cs c index.apart found ahead behind;
  is =
      put ∙ ap (λ (es : List Entry). insert (remove es i) k (entry_of Name (f c))) index.is
      ∙ ap (λ (es : List Entry). insert es k (entry_of Name (f c))) (remove_at (entry_of Name) p (sorted_by Name cs) i alone stands)
      ∙ insert_at (entry_of Name) before (f c) (remove_first p (sorted_by Name cs)) k
      (parts_imp (λ d. order d.name name ≡ Less) (λ d. order d.name name ≡ Greater) (λ d. before d (f c) ≡ true) (λ d. before d (f c) ≡ false) (remove_first p (sorted_by Name cs)) k
      (is_before_text Name (f c)) (is_behind_text Name (f c))
      (parts_removed (λ d. order d.name name ≡ Less) (λ d. order d.name name ≡ Greater) p (sorted_by Name cs) i j k alone stands to up down))
      ∙ ap (map (entry_of Name)) (sym (in_order_moved before (text_order Name) p f cs c index.apart (numbers_alone c.number cs numbers) found ahead));
}
  where
    before : Container → Container → Bool
    before = is_sorted_before Name

    p : Container → Bool
    p d = d.number == c.number

    f : Container → Container
    f d = record d { name = name }

    ahead : AllByRecursion (λ d. are_apart before (f c) d ≡ true) cs
    ahead = all_imp (λ d. same_bytes d.name name ≡ false) (λ d. are_apart before (f c) d ≡ true) (λ d e. apart_back d.name name e) cs fresh

    behind : AllByRecursion (λ d. are_apart before d (f c) ≡ true) cs
    behind = all_imp (λ d. same_bytes d.name name ≡ false) (λ d. are_apart before d (f c) ≡ true) (λ d e. apart_texts d.name name e) cs fresh

    alone : AreAlone p (sorted_by Name cs)
    alone = alone_in_order before p cs (numbers_alone c.number cs numbers)

    stands : HoldsOf (λ d. p d ≡ true) (sorted_by Name cs) i
    stands = holds_number Name cs c.number c i index.apart found at

-- ---- what a call's result tells

pub inserted : {X E A : Type 0} (r : Result X E) (now whole old : A) → IsOk r → now ≡ (if is_ok r then whole else old) → now ≡ whole
inserted r now whole old ok e = e ∙ ap (λ b. if b then whole else old) ok
