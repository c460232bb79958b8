-- Containers by number, and the indexes of a table.
use Rattle.std.proofs.Common.{◌≡◌, ℕ, suc, zero, ◌<◌, ◌≤◌, Bool, true, false, if◌then◌else◌, List, [], ◌∷◌, ◌++◌, length, get_or, take, drop, map, Option, Some, None, Result, Ok, Err, find, refl, sym, ◌∙◌, subst, ap, arith, Ordering, MatchResult}
use Rattle.std.specs.Prelude.{◌==◌, ◌&&◌, nat_lt}
use Rattle.std.specs.List.{AllByRecursion, AllWithin, remove}
use Rattle.std.proofs.Math.ListN.{set}
use Rattle.std.specs.List.Sorted.{IsBinarySearchResult, IsNonDecreasingBy, IsSearchInRange}
use Rattle.std.specs.Ordering.{nat_cmp, ordering_then, ordering_index, ordering_reverse}
use Rattle.std.specs.Cmp.{IsStrictWeakOrder}
use Rattle.std.proofs.lemmas.Cmp.{nat_cmp_total, nat_list_cmp_total}
use Rattle.std.proofs.lemmas.List.{length-map}
use Rattle.std.proofs.lemmas.List.Sorted.{ranks_by, IsStrictWeakOrder-by_number}
use Rattle.std.proofs.lemmas.Bool.Decides.{nat_tests}
use Rattle.std.specs.declared.boxed.Box.{Box}
use Rattle.std.specs.declared.cmp.Ordering.TheVariants.{Less, Equal, Greater}
use Rattle.engine_text.specs.declared.container.Container.{Container}
use Rattle.engine_text.specs.Texts.{same_bytes}
use Rattle.container_table.specs.Lists.{remove_first, update_first}
use Rattle.container_table.specs.Order.{IsInOrder, AreApart}
use Rattle.container_table.specs.Search.{HoldsOf, Parts}
use Rattle.container_table.specs.Starts.{front}
use Rattle.container_table.specs.Tables.{numbered, is_above}
use Rattle.container_table.specs.declared.entries.Key.{Key}
use Rattle.container_table.specs.declared.entries.Entry.{Entry}
use Rattle.container_table.specs.Logs.{container_in}
use Rattle.container_table.specs.declared.held.Held.{Held}
use Rattle.container_table.specs.Held.{contents, numbers_of, key_text, entry_of, entry_order, found_text, is_numbered_before, is_sorted_before, sorted_by, IsIndex, IsLocated, IsPlaced}
use Rattle.container_table.proofs.PlacedLemmas.{AreAlone, all_imp, all_in_order, ordered}
use Rattle.container_table.proofs.SearchLemmas.{Rises, rises_far, rises_made, found_place, holds_back, parts_back, find_none, all_of_parts}
use Rattle.container_table.proofs.SpanLemmas.{within_taken, within_dropped}
use Rattle.container_table.proofs.TextLemmas.{order, level, below, above, whole_order, is_lt-Less, places_rise, same_if_equal}

-- ---- the two orders

pub number_order : IsStrictWeakOrder is_numbered_before
number_order = IsStrictWeakOrder-by_number (λ (c : Container). c.number)

pub text_order : (key : Key) → IsStrictWeakOrder (is_sorted_before key)
text_order key = ranks_by nat_list_cmp_total (key_text key)

-- ---- containers by number

other_number : (c d : Container) (n : ℕ) → is_numbered_before c d ≡ true → (c.number == n) ≡ true → (d.number == n) ≡ false
other_number c d n e f = grind (arith, nat_tests, e, f)

pub numbers_alone : (n : ℕ) (cs : List Container) → IsInOrder is_numbered_before cs → AreAlone (λ c. c.number == n) cs
numbers_alone n [] h = tt
numbers_alone n (c ∷ cs) h = (λ e. all_imp (λ d. is_numbered_before c d ≡ true) (λ d. (d.number == n) ≡ false) (λ d f. other_number c d n f e) cs h.0, numbers_alone n cs h.1)

own_number : (c : Container) → (c.number == c.number) ≡ true
own_number c = grind (arith, nat_tests)

lower_number : (c d : Container) → is_numbered_before c d ≡ true → (c.number == d.number) ≡ false
lower_number c d e = grind (arith, nat_tests, e)

pub all_numbered : (cs : List Container) → IsInOrder is_numbered_before cs → AllByRecursion (λ c. numbered c.number cs ≡ Some c) cs
all_numbered [] h = tt
all_numbered (c ∷ cs) h = (rw (own_number c) refl, go cs h.0 (all_numbered cs h.1))
  where
    go : (l : List Container) → AllByRecursion (λ d. is_numbered_before c d ≡ true) l → AllByRecursion (λ d. numbered d.number cs ≡ Some d) l → AllByRecursion (λ d. numbered d.number (c ∷ cs) ≡ Some d) l
    go [] e f = tt
    go (d ∷ ds) e f = (rw (lower_number c d e.0) f.0, go ds e.1 f.1)

pub find_value : {Z : Type 0} (p : Container → Bool) (bs : List (Box Held Z)) (i : ℕ) (d : Box Held Z) → AreAlone p (contents bs) → HoldsOf (λ c. p c ≡ true) (contents bs) i
    → find p (contents bs) ≡ Some (container_in (get_or bs i d).value)
find_value p [] i d a h = absurd h
find_value p (b ∷ bs) zero d a h = rw h refl
find_value {Z} p (b ∷ bs) (suc i) d a h = go (p (container_in b.value)) refl (find_value p bs i d a.1 h)
  where
    none_passes : (l : List Container) (i : ℕ) → AllByRecursion (λ y. p y ≡ false) l → HoldsOf (λ y. p y ≡ true) l i → ⊥
    none_passes [] i e f = f
    none_passes (y ∷ ys) zero e f = let is : false ≡ true = sym e.0 ∙ f in absurd (cc)
    none_passes (y ∷ ys) (suc i) e f = none_passes ys i e.1 f

    go : (t : Bool) → p (container_in b.value) ≡ t → find p (contents bs) ≡ Some (container_in (get_or bs i d).value) → (if t then Some (container_in b.value) else find p (contents bs)) ≡ Some (container_in (get_or bs i d).value)
    go true e more = absurd (none_passes (contents bs) i (a.0 e) h)
    go false e more = more

no_passing : (p : Container → Bool) (l : List Container) (i : ℕ) → AllByRecursion (λ y. p y ≡ false) l → HoldsOf (λ y. p y ≡ true) l i → ⊥
no_passing p [] i e f = f
no_passing p (y ∷ ys) zero e f = let is : false ≡ true = sym e.0 ∙ f in absurd (cc)
no_passing p (y ∷ ys) (suc i) e f = no_passing p ys i e.1 f

same_number : (a n : ℕ) → (a == n) ≡ true → a ≡ n
same_number a n e = grind (arith, nat_tests, e)

pub number_at : {Z : Type 0} (n : ℕ) (bs : List (Box Held Z)) (i : ℕ) (d : Box Held Z) → HoldsOf (λ c. (c.number == n) ≡ true) (contents bs) i → (get_or bs i d).value.container.number ≡ n
number_at n [] i d h = absurd h
number_at n (b ∷ bs) zero d h = same_number b.value.container.number n h
number_at n (b ∷ bs) (suc i) d h = number_at n bs i d h

pub contents_removed : {Z : Type 0} (p : Container → Bool) (bs : List (Box Held Z)) (i : ℕ) → AreAlone p (contents bs) → HoldsOf (λ c. p c ≡ true) (contents bs) i
    → contents (remove bs i) ≡ remove_first p (contents bs)
contents_removed p [] i a h = absurd h
contents_removed p (b ∷ bs) zero a h = rw h refl
contents_removed {Z} p (b ∷ bs) (suc i) a h = go (p (container_in b.value)) refl (contents_removed p bs i a.1 h)
  where
    go : (t : Bool) → p (container_in b.value) ≡ t → contents (remove bs i) ≡ remove_first p (contents bs)
        → container_in b.value ∷ contents (remove bs i) ≡ (if t then contents bs else container_in b.value ∷ remove_first p (contents bs))
    go true e more = absurd (no_passing p (contents bs) i (a.0 e) h)
    go false e more = ap (λ l. container_in b.value ∷ l) more

pub contents_changed : {Z : Type 0} (p : Container → Bool) (f : Container → Container) (bs : List (Box Held Z)) (i : ℕ) (d : Box Held Z) (w : Box Held Z) → AreAlone p (contents bs)
    → HoldsOf (λ c. p c ≡ true) (contents bs) i → container_in w.value ≡ f (container_in (get_or bs i d).value) → contents (set bs i w) ≡ update_first p f (contents bs)
contents_changed p f [] i d w a h e = absurd h
contents_changed p f (b ∷ bs) zero d w a h e = rw h (ap (λ c. c ∷ contents bs) e)
contents_changed {Z} p f (b ∷ bs) (suc i) d w a h e = go (p (container_in b.value)) refl (contents_changed p f bs i d w a.1 h e)
  where
    go : (t : Bool) → p (container_in b.value) ≡ t → contents (set bs i w) ≡ update_first p f (contents bs)
        → container_in b.value ∷ contents (set bs i w) ≡ (if t then f (container_in b.value) ∷ contents bs else container_in b.value ∷ update_first p f (contents bs))
    go true g more = absurd (no_passing p (contents bs) i (a.0 g) h)
    go false g more = ap (λ l. container_in b.value ∷ l) more

pub contents_more : {Z : Type 0} (bs : List (Box Held Z)) (b : Box Held Z) → contents (bs ++ b ∷ []) ≡ contents bs ++ container_in b.value ∷ []
contents_more [] b = refl
contents_more (x ∷ xs) b = ap (λ l. container_in x.value ∷ l) (contents_more xs b)

at_number : (a n : ℕ) → nat_cmp a n ≡ Equal → (a == n) ≡ true
at_number a n e = let is : a ≡ n = level a n e in grind (arith, nat_tests)

is_less : (a b : ℕ) → nat_lt a b ≡ true → nat_cmp a b ≡ Less
is_less a b e = rw e refl

all_same : (P : Container → Type 0) → ((c : Container) → P c) → (cs : List Container) → AllByRecursion P cs
all_same P f [] = tt
all_same P f (c ∷ cs) = (f c, all_same P f cs)

rises_numbers : (n : ℕ) (cs : List Container) → IsInOrder is_numbered_before cs → Rises (λ m. ordering_index (nat_cmp m n)) (numbers_of cs)
rises_numbers n cs h =
    rises_made (λ (c : Container). c.number) (λ m. ordering_index (nat_cmp m n)) (λ c. ordering_index (nat_cmp c.number n)) is_numbered_before cs h
    (all_same (λ c. ordering_index (nat_cmp c.number n) ≡ ordering_index (nat_cmp c.number n)) (λ c. refl) cs)
    (λ c d e. places_rise nat_cmp nat_cmp_total c.number d.number n (is_less c.number d.number e))

placed_in : (n : ℕ) (cs : List Container) (r : Result ℕ ℕ) → MatchResult r (HoldsOf (λ m. nat_cmp m n ≡ Equal) (numbers_of cs)) (Parts (λ m. nat_cmp m n ≡ Less) (λ m. nat_cmp m n ≡ Greater) (numbers_of cs)) → IsPlaced cs n r
placed_in n cs (Ok i) m =
    holds_back (λ (c : Container). c.number) (λ m. nat_cmp m n ≡ Equal) (λ c. (c.number == n) ≡ true) cs i
    (all_same (λ c. nat_cmp c.number n ≡ Equal → (c.number == n) ≡ true) (λ c e. at_number c.number n e) cs) m
placed_in n cs (Err i) m =
    parts_back (λ (c : Container). c.number) (λ m. nat_cmp m n ≡ Less) (λ m. nat_cmp m n ≡ Greater) (λ c. nat_cmp c.number n ≡ Less) (λ c. nat_cmp c.number n ≡ Greater) cs i
    (all_same (λ c. nat_cmp c.number n ≡ Less → nat_cmp c.number n ≡ Less) (λ c e. e) cs) (all_same (λ c. nat_cmp c.number n ≡ Greater → nat_cmp c.number n ≡ Greater) (λ c e. e) cs) m

-- the numbers themselves rise
pub order_numbers : (cs : List Container) → IsInOrder is_numbered_before cs → IsInOrder nat_lt (numbers_of cs)
order_numbers [] h = tt
order_numbers (c ∷ cs) h = (go cs h.0, order_numbers cs h.1)
  where
    go : (l : List Container) → AllByRecursion (λ d. is_numbered_before c d ≡ true) l → AllByRecursion (λ m. nat_lt c.number m ≡ true) (numbers_of l)
    go [] e = tt
    go (d ∷ ds) e = (e.0, go ds e.1)

is_below : (m n : ℕ) → m < n → nat_cmp m n ≡ Less
is_below m n e = is_less m n (grind (arith, nat_tests))

is_past : (m n : ℕ) → n < m → nat_cmp m n ≡ Greater
is_past m n e = nat_cmp_total.antisymm m n ∙ ap ordering_reverse (is_below n m e)

-- the orders of the numbers to a number don't fall
pub numbers_rise : (n : ℕ) (cs : List Container) (numbers : List ℕ) → IsInOrder is_numbered_before cs → numbers ≡ numbers_of cs → IsNonDecreasingBy (λ m. ordering_index (nat_cmp m n)) numbers
numbers_rise n cs numbers h e =
    rises_far (λ m. ordering_index (nat_cmp m n)) numbers (subst (λ (ms : List ℕ). Rises (λ m. ordering_index (nat_cmp m n)) ms) (sym e) (rises_numbers n cs h))

pub less_before : (n : ℕ) (numbers : List ℕ) (low : ℕ) → low ≤ length numbers → AllByRecursion (λ m. m < n) (take low numbers) → AllWithin (λ m. nat_cmp m n ≡ Less) numbers 0 low
less_before n numbers low bound h =
    within_taken (λ m. nat_cmp m n ≡ Less) numbers low bound (all_imp (λ m. m < n) (λ m. nat_cmp m n ≡ Less) (λ m e. is_below m n e) (take low numbers) h)

pub greater_behind : (n : ℕ) (numbers : List ℕ) (high : ℕ) → AllByRecursion (λ m. n < m) (drop high numbers) → AllWithin (λ m. nat_cmp m n ≡ Greater) numbers high (length numbers)
greater_behind n numbers high h =
    within_dropped (λ m. nat_cmp m n ≡ Greater) numbers high (all_imp (λ m. n < m) (λ m. nat_cmp m n ≡ Greater) (λ m e. is_past m n e) (drop high numbers) h)

-- what halving finds among the numbers
pub number_placed : (n : ℕ) (cs : List Container) (numbers : List ℕ) (r : Result ℕ ℕ) → IsInOrder is_numbered_before cs → numbers ≡ numbers_of cs
    → IsSearchInRange r (length numbers) → IsBinarySearchResult (λ m. nat_cmp m n) numbers r → IsPlaced cs n r
number_placed n cs numbers r h e range found =
    placed_in n cs r
    (found_place (λ m. nat_cmp m n) (numbers_of cs) r (rises_numbers n cs h) (subst (λ (ms : List ℕ). IsSearchInRange r (length ms)) e range)
    (subst (λ (ms : List ℕ). IsBinarySearchResult (λ m. nat_cmp m n) ms r) e found))

pub length-numbers : {Z : Type 0} (bs : List (Box Held Z)) (numbers : List ℕ) → numbers ≡ numbers_of (contents bs) → length numbers ≡ length bs
length-numbers bs numbers e = ap length e ∙ length-map (contents bs) (λ c. c.number) ∙ length-map bs (λ b. container_in b.value)

not_less : (a n : ℕ) → nat_cmp a n ≡ Less → (a == n) ≡ false
not_less a n e = let less : a < n = below a n e in grind (arith, nat_tests)

not_greater : (a n : ℕ) → nat_cmp a n ≡ Greater → (a == n) ≡ false
not_greater a n e = let less : n < a = above a n e in grind (arith, nat_tests)

pub no_number : (n : ℕ) (cs : List Container) (i : ℕ) → Parts (λ c. nat_cmp c.number n ≡ Less) (λ c. nat_cmp c.number n ≡ Greater) cs i → AllByRecursion (λ c. (c.number == n) ≡ false) cs
no_number n cs i h =
    all_of_parts (λ c. nat_cmp c.number n ≡ Less) (λ c. nat_cmp c.number n ≡ Greater) (λ c. (c.number == n) ≡ false) cs i (λ c e. not_less c.number n e) (λ c e. not_greater c.number n e) h

pub none_numbered : (n : ℕ) (cs : List Container) (i : ℕ) → Parts (λ c. nat_cmp c.number n ≡ Less) (λ c. nat_cmp c.number n ≡ Greater) cs i → numbered n cs ≡ None
none_numbered n cs i h = find_none (λ c. c.number == n) cs (no_number n cs i h)

-- ---- indexes

-- an entry's text compares as its container's
entry_is : (key : Key) (cs : List Container) (text : List ℕ) (c : Container) → numbered c.number cs ≡ Some c → entry_order key cs text (entry_of key c) ≡ order (key_text key c) text
entry_is key cs text c e =
    ap (λ (o : Option Container). ordering_then (order (front 8 (key_text key c)) (front 8 text)) (order (found_text key o) text)) e ∙ whole_order 8 (key_text key c) text

pub entries_are : (key : Key) (cs : List Container) (text : List ℕ) → IsInOrder is_numbered_before cs
    → AllByRecursion (λ c. entry_order key cs text (entry_of key c) ≡ order (key_text key c) text) (sorted_by key cs)
entries_are key cs text h =
    all_in_order (is_sorted_before key) (λ c. entry_order key cs text (entry_of key c) ≡ order (key_text key c) text) cs
    (all_imp (λ c. numbered c.number cs ≡ Some c) (λ c. entry_order key cs text (entry_of key c) ≡ order (key_text key c) text) (λ c e. entry_is key cs text c e) cs (all_numbered cs h))

rises_texts : (key : Key) (text : List ℕ) (c d : Container) → is_sorted_before key c d ≡ true → ordering_index (order (key_text key c) text) ≤ ordering_index (order (key_text key d) text)
rises_texts key text c d e = places_rise order nat_list_cmp_total (key_text key c) (key_text key d) text (is_lt-Less (order (key_text key c) (key_text key d)) e)

entries_rise : (key : Key) (cs : List Container) (text : List ℕ) → IsInOrder is_numbered_before cs → AreApart (is_sorted_before key) cs
    → Rises (λ e. ordering_index (entry_order key cs text e)) (map (entry_of key) (sorted_by key cs))
entries_rise key cs text h apart =
    rises_made (entry_of key) (λ e. ordering_index (entry_order key cs text e)) (λ c. ordering_index (order (key_text key c) text)) (is_sorted_before key) (sorted_by key cs)
    (ordered (is_sorted_before key) (text_order key) cs apart)
    (all_imp (λ c. entry_order key cs text (entry_of key c) ≡ order (key_text key c) text) (λ c. ordering_index (entry_order key cs text (entry_of key c)) ≡ ordering_index (order (key_text key c) text)) (λ c e. ap ordering_index e) (sorted_by key cs) (entries_are key cs text h))
    (rises_texts key text)

pub located : (key : Key) (cs : List Container) (text : List ℕ) (entries : List Entry) (r : Result ℕ ℕ) → IsInOrder is_numbered_before cs → IsIndex key cs entries
    → IsSearchInRange r (length entries) → IsBinarySearchResult (entry_order key cs text) entries r → IsLocated key cs text r
located key cs text entries r h index bound found = go r (found_place (entry_order key cs text) (map (entry_of key) l) r up bound' found')
  where
    l : List Container
    l = sorted_by key cs

    are : AllByRecursion (λ c. entry_order key cs text (entry_of key c) ≡ order (key_text key c) text) l
    are = entries_are key cs text h

    up : Rises (λ e. ordering_index (entry_order key cs text e)) (map (entry_of key) l)
    up = entries_rise key cs text h index.apart

    bound' : IsSearchInRange r (length (map (entry_of key) l))
    bound' = subst (λ (es : List Entry). IsSearchInRange r (length es)) index.is bound

    found' : IsBinarySearchResult (entry_order key cs text) (map (entry_of key) l) r
    found' = subst (λ (es : List Entry). IsBinarySearchResult (entry_order key cs text) es r) index.is found

    as_whole : (o : Ordering) → AllByRecursion (λ c. entry_order key cs text (entry_of key c) ≡ o → order (key_text key c) text ≡ o) l
    as_whole o = all_imp (λ c. entry_order key cs text (entry_of key c) ≡ order (key_text key c) text) (λ c. entry_order key cs text (entry_of key c) ≡ o → order (key_text key c) text ≡ o) (λ c e f. sym e ∙ f) l are

    go : (r : Result ℕ ℕ) → MatchResult r (HoldsOf (λ e. entry_order key cs text e ≡ Equal) (map (entry_of key) l)) (Parts (λ e. entry_order key cs text e ≡ Less) (λ e. entry_order key cs text e ≡ Greater) (map (entry_of key) l))
        → IsLocated key cs text r
    go (Ok i) m = holds_back (entry_of key) (λ e. entry_order key cs text e ≡ Equal) (λ c. same_bytes (key_text key c) text ≡ true) l i
        (all_imp (λ c. entry_order key cs text (entry_of key c) ≡ Equal → order (key_text key c) text ≡ Equal) (λ c. entry_order key cs text (entry_of key c) ≡ Equal → same_bytes (key_text key c) text ≡ true)
        (λ c e f. same_if_equal (key_text key c) text (e f)) l (as_whole Equal)) m
    go (Err i) m = parts_back (entry_of key) (λ e. entry_order key cs text e ≡ Less) (λ e. entry_order key cs text e ≡ Greater) (λ c. order (key_text key c) text ≡ Less) (λ c. order (key_text key c) text ≡ Greater) l i
        (as_whole Less) (as_whole Greater) m

-- the orders of an index's entries to a text don't fall
pub index_rises : (key : Key) (cs : List Container) (text : List ℕ) (entries : List Entry) → IsInOrder is_numbered_before cs → IsIndex key cs entries
    → IsNonDecreasingBy (λ e. ordering_index (entry_order key cs text e)) entries
index_rises key cs text entries h index = rises_far (λ e. ordering_index (entry_order key cs text e)) entries (subst (λ (es : List Entry). Rises (λ e. ordering_index (entry_order key cs text e)) es) (sym index.is) (entries_rise key cs text h index.apart))

-- ---- a number above all

below_more : (n : ℕ) (c d : Container) (ds : List Container) → is_numbered_before c d ≡ true → is_above n (c ∷ d ∷ ds) ≡ is_above n (d ∷ ds)
below_more n c d ds e = go (nat_lt c.number n) (nat_lt d.number n) (is_above n ds) below
  where
    below : nat_lt d.number n ≡ true → nat_lt c.number n ≡ true
    below f = grind (arith, nat_tests, e, f)

    go : (a b t : Bool) → (b ≡ true → a ≡ true) → (a && (b && t)) ≡ (b && t)
    go a true t f = rw (f refl) refl
    go true false t f = refl
    go false false t f = refl

above_at : {Z : Type 0} (n : ℕ) (bs : List (Box Held Z)) (i : ℕ) (b : Box Held Z) → IsInOrder is_numbered_before (contents bs) → length bs ≡ suc i → is_above n (contents bs) ≡ nat_lt (get_or bs i b).value.container.number n
above_at n [] i b h e = absurd (omega (arith, e))
above_at n (x ∷ []) zero b h e = and_true (nat_lt x.value.container.number n)
  where
    and_true : (t : Bool) → (t && true) ≡ t
    and_true true = refl
    and_true false = refl
above_at n (x ∷ []) (suc i) b h e = absurd (omega (arith, e))
above_at n (x ∷ y ∷ bs) zero b h e = absurd (omega (arith, e))
above_at n (x ∷ y ∷ bs) (suc i) b h e = below_more n (container_in x.value) (container_in y.value) (contents bs) h.0.0 ∙ above_at n (y ∷ bs) i b h.1 (omega (arith, e))

-- Of containers in order of number the last tells it for all.
pub above_last : {Z : Type 0} (n : ℕ) (bs : List (Box Held Z)) (i : ℕ) (b : Box Held Z) → IsInOrder is_numbered_before (contents bs) → length bs ≡ suc i → b ≡ get_or bs i b
    → is_above n (contents bs) ≡ nat_lt b.value.container.number n
above_last n bs i b h last is = above_at n bs i b h last ∙ ap (λ x. nat_lt x.value.container.number n) (sym is)

pub all_above : (n : ℕ) (cs : List Container) → is_above n cs ≡ true → AllByRecursion (λ c. c.number < n) cs
all_above n [] e = tt
all_above n (c ∷ cs) e = go (nat_lt c.number n) refl e (all_above n cs)
  where
    go : (t : Bool) → nat_lt c.number n ≡ t → (t && is_above n cs) ≡ true → (is_above n cs ≡ true → AllByRecursion (λ d. d.number < n) cs) → AllByRecursion (λ d. d.number < n) (c ∷ cs)
    go true f e more = (grind (arith, nat_tests, f), more e)
    go false f e more = absurd (cc)
