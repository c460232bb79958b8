-- Which container a reference names, told by the orders of the indexes.
use Rattle.std.proofs.Common.{◌≡◌, ℕ, zero, suc, ◌+◌, ◌<◌, ◌≤◌, Bool, true, false, if◌then◌else◌, List, [], ◌∷◌, length, get_or, drop, map, filter, Option, Some, None, find, refl, sym, ◌∙◌, subst, ap, arith, add-one, Ordering, Result, Ok, Err, ◌||◌}
use Rattle.std.proofs.lemmas.List.{length-map}
use Rattle.std.specs.List.{AllByRecursion}
use Rattle.std.specs.Option.{is_none}
use Rattle.std.specs.Result.{is_err}
use Rattle.std.specs.Ordering.{is_eq, is_lt, ordering_reverse}
use Rattle.std.proofs.lemmas.Cmp.{nat_list_cmp_total}
use Rattle.std.proofs.lemmas.Map.Text.{is_eq-slice_cmp}
use Rattle.std.specs.declared.cmp.Ordering.TheVariants.{Less, Equal, Greater}
use Rattle.engine_text.specs.declared.container.Container.{Container}
use Rattle.engine_text.specs.declared.container.Found.{Found}
use Rattle.engine_text.specs.Texts.{same_bytes, begins_with, without_slash}
use Rattle.container_table.specs.Lists.{placed}
use Rattle.container_table.specs.Reference.{only, by_prefix, by_name, by_id, container_by}
use Rattle.container_table.specs.Order.{in_order, IsInOrder, are_apart, AreApart}
use Rattle.container_table.specs.Search.{HoldsOf, Parts}
use Rattle.container_table.specs.Tables.{numbered, named}
use Rattle.container_table.specs.declared.entries.Key.{Key}
use Rattle.container_table.specs.declared.entries.Key.TheVariants.{Id, Name}
use Rattle.container_table.specs.declared.entries.Entry.{Entry}
use Rattle.container_table.specs.Held.{key_text, entry_of, is_numbered_before, is_sorted_before, sorted_by, IsIndex, IsLocated, found_text, first_begins}
use Rattle.container_table.proofs.PlacedLemmas.{AreAlone, all_imp, all_in_order, all_found, in_order_back, alone_in_order, ordered}
use Rattle.container_table.proofs.SearchLemmas.{find_at, find_none, all_of_parts}
use Rattle.container_table.proofs.TextLemmas.{order, other_if_less, other_if_greater, none_below, none_behind, is_lt-Less}
use Rattle.container_table.proofs.HeldLemmas.{text_order, all_numbered}

-- ---- the one that passes

module _ {A : Type 0} (before : A → A → Bool) where
  find_placed : (p : A → Bool) (x : A) (l : List A) → (p x ≡ true → AllByRecursion (λ y. p y ≡ false) l) → find p (placed before x l) ≡ (if p x then Some x else find p l)
  find_placed p x [] a = refl
  find_placed p x (y ∷ ys) a = go (before y x) (p x) (p y) refl refl (find_placed p x ys (λ e. (a e).1))
    where
      go : (b c d : Bool) → p x ≡ c → p y ≡ d → find p (placed before x ys) ≡ (if p x then Some x else find p ys)
          → find p (if b then y ∷ placed before x ys else x ∷ y ∷ ys) ≡ (if c then Some x else (if d then Some y else find p ys))
      go true true true e f more = let un : p y ≡ false = (a e).0 in absurd (cc)
      go true true false e f more = rw f (more ∙ ap (λ t. if t then Some x else find p ys) e)
      go true false true e f more = rw f refl
      go true false false e f more = rw f (more ∙ ap (λ t. if t then Some x else find p ys) e)
      go false true d e f more = rw e refl
      go false false d e f more = rw (e, f) refl

  pub find_in_order : (p : A → Bool) (xs : List A) → AreAlone p xs → find p (in_order before xs) ≡ find p xs
  find_in_order p [] a = refl
  find_in_order p (x ∷ xs) a =
      find_placed p x (in_order before xs) (λ e. all_in_order before (λ y. p y ≡ false) xs (a.0 e))
      ∙ ap (λ (o : Option A). if p x then Some x else o) (find_in_order p xs a.1)

is_eq-Equal : (o : Ordering) → is_eq o ≡ true → o ≡ Equal
is_eq-Equal Less e = absurd (cc)
is_eq-Equal Equal e = refl
is_eq-Equal Greater e = absurd (cc)

pub other_text : (a b r : List ℕ) → (is_lt (order a b) || is_lt (order b a)) ≡ true → same_bytes a r ≡ true → same_bytes b r ≡ false
other_text a b r e f =
    sym (is_eq-slice_cmp b r)
    ∙ ap is_eq (nat_list_cmp_total.antisymm b r ∙ ap ordering_reverse (sym (nat_list_cmp_total.congr a r b (is_eq-Equal (order a r) (is_eq-slice_cmp a r ∙ f)))))
    ∙ go (order a b) refl e
  where
    go : (o : Ordering) → order a b ≡ o → (is_lt o || is_lt (order b a)) ≡ true → is_eq (ordering_reverse o) ≡ false
    go Less g h = refl
    go Equal g h =
        let back : order b a ≡ Equal = nat_list_cmp_total.antisymm b a ∙ ap ordering_reverse g in
        let is : is_lt (order b a) ≡ false = ap is_lt back in absurd (cc)
    go Greater g h = refl

pub texts_alone : (key : Key) (r : List ℕ) (cs : List Container) → AreApart (is_sorted_before key) cs → AreAlone (λ c. same_bytes (key_text key c) r) cs
texts_alone key r [] h = tt
texts_alone key r (c ∷ cs) h =
    (λ e. all_imp (λ d. are_apart (is_sorted_before key) c d ≡ true) (λ d. same_bytes (key_text key d) r ≡ false) (λ d a. other_text (key_text key c) (key_text key d) r a e) cs h.0, texts_alone key r cs h.1)

pub located_one : (key : Key) (cs : List Container) (text : List ℕ) (entries : List Entry) (i : ℕ) → IsInOrder is_numbered_before cs → IsIndex key cs entries
    → HoldsOf (λ c. same_bytes (key_text key c) text ≡ true) (sorted_by key cs) i
    → (x : Container) × (find (λ c. same_bytes (key_text key c) text) cs ≡ Some x) × ((d : Entry) → get_or entries i d ≡ entry_of key x) × (numbered x.number cs ≡ Some x)
located_one key cs text entries i numbers index at = (one.0, found, λ d. ap (λ (es : List Entry). get_or es i d) index.is ∙ one.2 d, all_found (λ c. numbered c.number cs ≡ Some c) p cs one.0 (all_numbered cs numbers) found)
  where
    p : Container → Bool
    p c = same_bytes (key_text key c) text

    alone : AreAlone p cs
    alone = texts_alone key text cs index.apart

    one : (x : Container) × (find p (sorted_by key cs) ≡ Some x) × ((d : Entry) → get_or (map (entry_of key) (sorted_by key cs)) i d ≡ entry_of key x)
    one = find_at (entry_of key) p (sorted_by key cs) i (alone_in_order (is_sorted_before key) p cs alone) at

    found : find p cs ≡ Some one.0
    found = sym (find_in_order (is_sorted_before key) p cs alone) ∙ one.1

pub located_none : (key : Key) (cs : List Container) (text : List ℕ) (i : ℕ)
    → Parts (λ c. order (key_text key c) text ≡ Less) (λ c. order (key_text key c) text ≡ Greater) (sorted_by key cs) i → find (λ c. same_bytes (key_text key c) text) cs ≡ None
located_none key cs text i at =
    find_none (λ c. same_bytes (key_text key c) text) cs (in_order_back (is_sorted_before key) (λ c. same_bytes (key_text key c) text ≡ false) cs
    (all_of_parts (λ c. order (key_text key c) text ≡ Less) (λ c. order (key_text key c) text ≡ Greater) (λ c. same_bytes (key_text key c) text ≡ false) (sorted_by key cs) i
    (λ c e. other_if_less (key_text key c) text e) (λ c e. other_if_greater (key_text key c) text e) at))

-- whether a search finds none tells whether the text is new
pub new_is : (key : Key) (cs : List Container) (text : List ℕ) (entries : List Entry) (r : Result ℕ ℕ) → IsInOrder is_numbered_before cs → IsIndex key cs entries → IsLocated key cs text r
    → is_err r ≡ is_none (find (λ c. same_bytes (key_text key c) text) cs)
new_is key cs text entries (Ok i) numbers index at = sym (ap is_none (located_one key cs text entries i numbers index at).1)
new_is key cs text entries (Err i) numbers index at = sym (ap is_none (located_none key cs text i at))

-- ---- the only one that passes

abbrev pub joined : ℕ → Found → Found
joined n Found.None = Found.One n
joined n (Found.One m) = Found.Many
joined n Found.Many = Found.Many

abbrev pub tally : (Container → Bool) → List Container → Found
tally p [] = Found.None
tally p (c ∷ cs) = if p c then joined c.number (tally p cs) else tally p cs

joined_swap : (m n : ℕ) (t : Found) → joined m (joined n t) ≡ joined n (joined m t)
joined_swap m n Found.None = refl
joined_swap m n (Found.One k) = refl
joined_swap m n Found.Many = refl

only_more : (c : Container) (cs : List Container) → only (c ∷ cs) ≡ joined c.number (only cs)
only_more c [] = refl
only_more c (d ∷ []) = refl
only_more c (d ∷ e ∷ es) = refl

pub only_is : (p : Container → Bool) (cs : List Container) → only (filter p cs) ≡ tally p cs
only_is p [] = refl
only_is p (c ∷ cs) = go (p c) (only_is p cs)
  where
    go : (b : Bool) → only (filter p cs) ≡ tally p cs → only (if b then c ∷ filter p cs else filter p cs) ≡ (if b then joined c.number (tally p cs) else tally p cs)
    go true e = only_more c (filter p cs) ∙ ap (joined c.number) e
    go false e = e

tally_swap : (p : Container → Bool) (x y : Container) (cs : List Container) → tally p (x ∷ y ∷ cs) ≡ tally p (y ∷ x ∷ cs)
tally_swap p x y cs = go (p x) (p y)
  where
    go : (a b : Bool) → (if a then joined x.number (if b then joined y.number (tally p cs) else tally p cs) else (if b then joined y.number (tally p cs) else tally p cs))
        ≡ (if b then joined y.number (if a then joined x.number (tally p cs) else tally p cs) else (if a then joined x.number (tally p cs) else tally p cs))
    go true true = joined_swap x.number y.number (tally p cs)
    go true false = refl
    go false true = refl
    go false false = refl

tally_placed : (before : Container → Container → Bool) (p : Container → Bool) (x : Container) (l : List Container) → tally p (placed before x l) ≡ tally p (x ∷ l)
tally_placed before p x [] = refl
tally_placed before p x (y ∷ ys) = go (before y x) (tally_placed before p x ys)
  where
    go : (b : Bool) → tally p (placed before x ys) ≡ tally p (x ∷ ys) → tally p (if b then y ∷ placed before x ys else x ∷ y ∷ ys) ≡ tally p (x ∷ y ∷ ys)
    go true e = ap (λ (t : Found). if p y then joined y.number t else t) e ∙ tally_swap p y x ys
    go false e = refl

tally_in_order : (before : Container → Container → Bool) (p : Container → Bool) (cs : List Container) → tally p (in_order before cs) ≡ tally p cs
tally_in_order before p [] = refl
tally_in_order before p (c ∷ cs) = tally_placed before p c (in_order before cs) ∙ ap (λ (t : Found). if p c then joined c.number t else t) (tally_in_order before p cs)

pub prefix_is : (cs : List Container) (r : List ℕ) → by_prefix cs r ≡ tally (λ c. begins_with c.id r) (sorted_by Id cs)
prefix_is cs r = only_is (λ c. begins_with c.id r) cs ∙ sym (tally_in_order (is_sorted_before Id) (λ c. begins_with c.id r) cs)

-- ---- those that begin with one text stand in a row

begins : List ℕ → Container → Bool
begins r c = begins_with c.id r

-- what the first two tell, where none before them begins so
pub record Tells (r : List ℕ) (l : List Container) (i : ℕ) : Type 0 where
  pub none : first_begins r (drop i l) ≡ false → tally (λ c. begins_with c.id r) l ≡ Found.None
  pub many : first_begins r (drop i l) ≡ true → first_begins r (drop (suc i) l) ≡ true → tally (λ c. begins_with c.id r) l ≡ Found.Many
  pub one : (d : Entry) → first_begins r (drop i l) ≡ true → first_begins r (drop (suc i) l) ≡ false → tally (λ c. begins_with c.id r) l ≡ Found.One (get_or (map (entry_of Id) l) i d).number
  pub bound : first_begins r (drop i l) ≡ true → i < length l

tally_none : (p : Container → Bool) (l : List Container) → AllByRecursion (λ c. p c ≡ false) l → tally p l ≡ Found.None
tally_none p [] h = refl
tally_none p (c ∷ cs) h = rw h.0 (tally_none p cs h.1)

rest_none : (r : List ℕ) (x : Container) (xs : List Container) → order x.id r ≡ Greater → begins_with x.id r ≡ false → AllByRecursion (λ y. is_sorted_before Id x y ≡ true) xs
    → AllByRecursion (λ c. begins_with c.id r ≡ false) xs
rest_none r x xs e f h = all_imp (λ y. is_sorted_before Id x y ≡ true) (λ c. begins_with c.id r ≡ false) (λ y g. none_behind x.id y.id r e f (is_lt-Less (order x.id y.id) g)) xs h

joined_twice : (m n : ℕ) (t : Found) → joined m (joined n t) ≡ Found.Many
joined_twice m n Found.None = refl
joined_twice m n (Found.One k) = refl
joined_twice m n Found.Many = refl

pub tells : (r : List ℕ) (l : List Container) (i : ℕ) → IsInOrder (is_sorted_before Id) l → Parts (λ c. order c.id r ≡ Less) (λ c. order c.id r ≡ Greater) l i → Tells r l i
tells r [] zero h e = record { none = λ f. refl; many = λ f g. absurd (cc); one = λ d f g. absurd (cc); bound = λ f. absurd (cc) }
tells r (x ∷ []) zero h e = record {
  none = λ f. rw f refl;
  many = λ f g. absurd (cc);
  one = λ d f g. rw f refl;
  bound = λ f. omega arith;
}
tells r (x ∷ y ∷ ys) zero h e = record {
  none = λ f. tally_none (λ c. begins_with c.id r) (x ∷ y ∷ ys) (f, rest_none r x (y ∷ ys) e.0 f h.0);
  many = λ f g. rw (f, g) (joined_twice x.number y.number (tally (λ c. begins_with c.id r) ys));
  one = λ d f g. rw (f, g, tally_none (λ c. begins_with c.id r) ys (rest_none r y ys e.1.0 g h.1.0)) refl;
  bound = λ f. omega arith;
}
tells r [] (suc i) h e = absurd e
tells r (x ∷ xs) (suc i) h e =
    let more : Tells r xs i = tells r xs i h.1 e.1 in
    let off : begins_with x.id r ≡ false = none_below x.id r e.0 in record {
      none = λ f. rw off (more.none f);
      many = λ f g. rw off (more.many f g);
      one = λ d f g. rw off (more.one d f g);
      bound = λ f. let low : i < length xs = more.bound f in omega arith;
    }

-- ---- the text of the entry at a place

begun : (cs : List Container) (r : List ℕ) (l : List Container) (i : ℕ) (d : Entry) → AllByRecursion (λ c. numbered c.number cs ≡ Some c) l → i < length l
    → begins_with (found_text Id (numbered (get_or (map (entry_of Id) l) i d).number cs)) r ≡ first_begins r (drop i l)
begun cs r [] i d h less = absurd (omega arith)
begun cs r (c ∷ l) zero d h less = rw h.0 refl
begun cs r (c ∷ l) (suc i) d h less = begun cs r l i d h.1 (omega arith)

none_begun : (r : List ℕ) (l : List Container) (i : ℕ) → length l ≤ i → first_begins r (drop i l) ≡ false
none_begun r [] zero low = refl
none_begun r [] (suc i) low = refl
none_begun r (c ∷ l) zero low = absurd (omega arith)
none_begun r (c ∷ l) (suc i) low = none_begun r l i (omega arith)

length-entries : (key : Key) (cs : List Container) (entries : List Entry) → IsIndex key cs entries → length entries ≡ length (sorted_by key cs)
length-entries key cs entries index = ap length index.is ∙ length-map (sorted_by key cs) (entry_of key)

pub begun_here : (cs : List Container) (r : List ℕ) (entries : List Entry) (i : ℕ) (d : Entry) → IsInOrder is_numbered_before cs → IsIndex Id cs entries → i < length entries
    → begins_with (found_text Id (numbered (get_or entries i d).number cs)) r ≡ first_begins r (drop i (sorted_by Id cs))
begun_here cs r entries i d numbers index less =
    ap (λ (es : List Entry). begins_with (found_text Id (numbered (get_or es i d).number cs)) r) index.is
    ∙ begun cs r (sorted_by Id cs) i d (all_in_order (is_sorted_before Id) (λ c. numbered c.number cs ≡ Some c) cs (all_numbered cs numbers))
    (subst (λ n. i < n) (length-entries Id cs entries index) less)

pub none_here : (cs : List Container) (r : List ℕ) (entries : List Entry) (i : ℕ) → IsIndex Id cs entries → length entries ≤ i → first_begins r (drop i (sorted_by Id cs)) ≡ false
none_here cs r entries i index low = none_begun r (sorted_by Id cs) i (subst (λ n. n ≤ i) (length-entries Id cs entries index) low)

pub told_here : (cs : List Container) (r : List ℕ) (i : ℕ) → AreApart (is_sorted_before Id) cs → Parts (λ c. order c.id r ≡ Less) (λ c. order c.id r ≡ Greater) (sorted_by Id cs) i → Tells r (sorted_by Id cs) i
told_here cs r i apart at = tells r (sorted_by Id cs) i (ordered (is_sorted_before Id) (text_order Id) cs apart) at

-- what the index tells of a prefix
pub record Prefixed (cs : List Container) (r : List ℕ) (entries : List Entry) (i : ℕ) : Type 0 where
  pub none : first_begins r (drop i (sorted_by Id cs)) ≡ false → Found.None ≡ by_prefix cs r
  pub many : first_begins r (drop i (sorted_by Id cs)) ≡ true → first_begins r (drop (i + 1) (sorted_by Id cs)) ≡ true → Found.Many ≡ by_prefix cs r
  pub one : (d : Entry) → first_begins r (drop i (sorted_by Id cs)) ≡ true → first_begins r (drop (i + 1) (sorted_by Id cs)) ≡ false → Found.One (get_or entries i d).number ≡ by_prefix cs r
  pub bound : first_begins r (drop i (sorted_by Id cs)) ≡ true → i < length entries

pub prefixed_here : (cs : List Container) (r : List ℕ) (entries : List Entry) (i : ℕ) → IsIndex Id cs entries → Parts (λ c. order c.id r ≡ Less) (λ c. order c.id r ≡ Greater) (sorted_by Id cs) i
    → Prefixed cs r entries i
prefixed_here cs r entries i index at = record {
  none = λ f. sym (is ∙ told.none f);
  many = λ f g. sym (is ∙ told.many f (behind true g));
  one = λ d f g. sym (is ∙ told.one d f (behind false g) ∙ ap (λ (es : List Entry). Found.One (get_or es i d).number) (sym index.is));
  bound = λ f. subst (λ n. i < n) (sym (length-entries Id cs entries index)) (told.bound f);
}
  where
    is : by_prefix cs r ≡ tally (λ c. begins_with c.id r) (sorted_by Id cs)
    is = prefix_is cs r

    told : Tells r (sorted_by Id cs) i
    told = told_here cs r i index.apart at

    behind : (b : Bool) → first_begins r (drop (i + 1) (sorted_by Id cs)) ≡ b → first_begins r (drop (suc i) (sorted_by Id cs)) ≡ b
    behind b g = sym (ap (λ k. first_begins r (drop k (sorted_by Id cs))) (add-one i)) ∙ g

-- ---- by the text of an index

pub located_is : (key : Key) (cs : List Container) (text : List ℕ) (entries : List Entry) (i : ℕ) (d : Entry) → IsInOrder is_numbered_before cs → IsIndex key cs entries
    → HoldsOf (λ c. same_bytes (key_text key c) text ≡ true) (sorted_by key cs) i
    → numbered (get_or entries i d).number cs ≡ find (λ c. same_bytes (key_text key c) text) cs
located_is key cs text entries i d numbers index at =
    let one = located_one key cs text entries i numbers index at in
    ap (λ (e : Entry). numbered e.number cs) (one.2 d) ∙ one.3 ∙ sym one.1

pub found_by_id : (cs : List Container) (r : List ℕ) (entries : List Entry) (i : ℕ) (d : Entry) → IsInOrder is_numbered_before cs → IsIndex Id cs entries
    → HoldsOf (λ c. same_bytes c.id r ≡ true) (sorted_by Id cs) i → Found.One (get_or entries i d).number ≡ container_by cs r
found_by_id cs r entries i d numbers index at =
    let one = located_one Id cs r entries i numbers index at in
    ap (λ (e : Entry). Found.One e.number) (one.2 d) ∙ sym (ap (λ (o : Option Container). by_id o cs r) one.1)

pub found_by_name : (cs : List Container) (r : List ℕ) (i : ℕ) (o : Option Container)
    → Parts (λ c. order c.id r ≡ Less) (λ c. order c.id r ≡ Greater) (sorted_by Id cs) i → o ≡ named (without_slash r) cs → by_name o cs r ≡ container_by cs r
found_by_name cs r i o at e = ap (λ (p : Option Container). by_name p cs r) e ∙ sym (ap (λ (p : Option Container). by_id p cs r) (located_none Id cs r i at))

pub found_named : (cs : List Container) (r text : List ℕ) (names : List Entry) (i j : ℕ) (d : Entry) → IsInOrder is_numbered_before cs → IsIndex Name cs names → text ≡ without_slash r
    → Parts (λ c. order c.id r ≡ Less) (λ c. order c.id r ≡ Greater) (sorted_by Id cs) i → HoldsOf (λ c. same_bytes c.name text ≡ true) (sorted_by Name cs) j
    → Found.One (get_or names j d).number ≡ container_by cs r
found_named cs r text names i j d numbers index e none at =
    let one = located_one Name cs text names j numbers index at in
    ap (λ (x : Entry). Found.One x.number) (one.2 d) ∙ found_by_name cs r i (Some one.0) none (sym one.1 ∙ ap (λ (t : List ℕ). named t cs) e)
