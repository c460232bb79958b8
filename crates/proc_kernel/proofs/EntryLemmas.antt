-- own: rows in order, and the entries that they tell.
use Rattle.std.proofs.Common.{◌≡◌, ℕ, suc, ◌+◌, ◌-◌, ◌<◌, ◌≤◌, ◌==◌, nat_lt, not, Bool, true, false, List, [], ◌∷◌, ◌++◌, Some, None, refl, sym, ap, ◌∙◌, subst, arith, length, get_or, take, drop, map, AllPairs, Any, count_by, insert, remove, position, if◌then◌else◌, inl, inr, ◌⊎◌, ⊎_elim}
use Rattle.std.proofs.lemmas.Bool.Decides.{nat_tests}
use Rattle.std.proofs.lemmas.Bool.{false≢true, cases_lt}
use Rattle.std.specs.List.{position_or_len}
use Rattle.std.proofs.lemmas.List.Sums.{position_or_len_is, sum_by-insert, sum_by-remove, sum_by_push}
use Rattle.engine_text.specs.declared.owner.Owner.{Owner}
use Rattle.engine_text.specs.declared.owner.Owner.TheVariants.{Container, Exec}
use Rattle.proc_kernel.specs.declared.entries.Row.{Row}
use Rattle.engine_text.specs.Owner.{same_owner}
use Rattle.std.specs.List.Sorted.{IsPartitionPoint}
use Rattle.std.proofs.lemmas.List.Edits.{length-insert, get_or-insert_below, get_or-insert_at, get_or-insert_above}
use Rattle.std.proofs.lemmas.List.Quantifiers.{all_pairs_push, all_pairs_remove}
use Rattle.std.proofs.lemmas.List.Elements.{All-push, All-weaker, All-get_or, All-append, All-cons, All-take, All-drop}
use Rattle.std.proofs.lemmas.List.Sums.{sum_by-cons}
use Rattle.std.proofs.lemmas.List.{take-map, drop-map, map-append, get_or_default, length-map}
use Rattle.proc_kernel.specs.Entries.{rank_of, stands_before, is_row, place_in, AreByOwner, AreByTurn, AreBorn, AreAmong, AreEntries}

-- owners of one rank are one
pub same_rank : (a b : Owner) → same_owner a b ≡ (rank_of a == rank_of b)
same_rank (Container m) (Container n) = grind (arith, nat_tests)
same_rank (Exec m) (Exec n) = grind (arith, nat_tests)
same_rank (Container m) (Exec n) = grind (arith, nat_tests)
same_rank (Exec m) (Container n) = grind (arith, nat_tests)

goes_before : (a b k : Row) → stands_before b a ≡ false → stands_before b k ≡ true → stands_before a k ≡ true
goes_before a b k h e = grind (arith, nat_tests)

-- those that come before a row come first
pub parted_by_owner : (rows : List Row) (k : Row) → AreByOwner rows → (i j : ℕ) (d : Row) → i ≤ j → j < length rows → stands_before (get_or rows j d) k ≡ true → stands_before (get_or rows i d) k ≡ true
parted_by_owner rows k h i j d le lt e =
    ⊎_elim
    (λ l. goes_before (get_or rows i d) (get_or rows j d) k (h i j d l lt) e)
    (λ g. let same : j ≡ i = omega (arith, le, g) in subst (λ n. stands_before (get_or rows n d) k ≡ true) same e)
    (cases_lt i j)

-- those of an earlier turn come first
pub parted_by_turn : (rows : List Row) (turn : ℕ) → AreByTurn rows → (i j : ℕ) (d : Row) → i ≤ j → j < length rows → nat_lt (get_or rows j d).born turn ≡ true → nat_lt (get_or rows i d).born turn ≡ true
parted_by_turn rows turn h i j d le lt e =
    ⊎_elim
    (λ l. let rise = h i j d l lt in grind (arith, nat_tests))
    (λ g. let same : j ≡ i = omega (arith, le, g) in subst (λ n. nat_lt (get_or rows n d).born turn ≡ true) same e)
    (cases_lt i j)

module _ (p : Row → Bool) where
  -- the first that passes is the position
  pub position_is : (xs : List Row) (i : ℕ) (d : Row) → i < length xs → p (get_or xs i d) ≡ true → ((k : ℕ) → k < i → p (get_or xs k d) ≡ false) → position p xs ≡ Some i
  position_is xs i d lt here before =
      let at : position_or_len p xs ≡ i = position_or_len_is p xs i d (omega (arith, lt)) before (λ _. here) in
      let yes : nat_lt i (length xs) ≡ true = grind (arith, nat_tests) in
      ap (λ n. if nat_lt n (length xs) then Some n else None) at ∙ ap (λ b. if b then Some i else None) yes

  -- where none passes there is no position
  pub position_none : (xs : List Row) → ((k : ℕ) (d : Row) → k < length xs → p (get_or xs k d) ≡ false) → position p xs ≡ None
  position_none [] none = refl
  position_none (x ∷ xs) none =
      let n : ℕ = length (x ∷ xs) in
      let at : position_or_len p (x ∷ xs) ≡ n = position_or_len_is p (x ∷ xs) n x (omega arith) (λ k lt. none k x lt) (λ lt. absurd (omega (arith, lt))) in
      let no : nat_lt n n ≡ false = grind (arith, nat_tests) in
      ap (λ m. if nat_lt m n then Some m else None) at ∙ ap (λ b. if b then Some n else None) no

-- ---- the tables change

pub still : (turn : ℕ) (entries rows entries' rows' : List Row) → entries' ≡ entries → rows' ≡ rows → AreEntries turn entries rows → AreEntries turn entries' rows'
still turn entries rows entries' rows' e f h = record {
  owners = subst AreByOwner (sym f) h.owners;
  turns = subst AreByTurn (sym e) h.turns;
  born_owners = subst (AreBorn turn) (sym f) h.born_owners;
  born_turns = subst (AreBorn turn) (sym e) h.born_turns;
  among = subst (λ (s : List Row). AreAmong s rows') (sym e) (subst (AreAmong entries) (sym f) h.among);
}

after : (a k : Row) → stands_before a k ≡ true → stands_before k a ≡ false
after a k e = grind (arith, nat_tests)

module _ (R : Row → Row → Type 0) where
  -- an item between those that it may stand behind and those that may stand behind it
  pairs_insert : (xs : List Row) (n : ℕ) (x : Row) → n ≤ length xs → AllPairs R xs → ((k : ℕ) (d : Row) → k < n → R (get_or xs k d) x) → ((k : ℕ) (d : Row) → n ≤ k → k < length xs → R x (get_or xs k d)) → AllPairs R (insert xs n x)
  pairs_insert xs n x le h front back i j d lt within =
      let long = length-insert xs n x le in
      ⊎_elim
      (λ jn. rw (get_or-insert_below xs n x d i (omega (arith, lt, jn)) le, get_or-insert_below xs n x d j jn le) (h i j d lt (omega (arith, jn, le))))
      (λ nj. ⊎_elim
      (λ last.
      let at : j ≡ n = omega (arith, nj, last) in
      let in_front : i < n = omega (arith, lt, at) in
      subst (λ m. R (get_or (insert xs n x) i d) (get_or (insert xs n x) m d)) (sym at) (rw (get_or-insert_below xs n x d i in_front le, get_or-insert_at xs n x d le) (front i d in_front)))
      (λ past. behind (j - 1) (omega (arith, past)) (omega (arith, past)) (omega (arith, past, within, long)))
      (cases_lt j (n + 1)))
      (cases_lt j n)
    where
      further : (m : ℕ) → j ≡ m + 1 → m < length xs → get_or (insert xs n x) j d ≡ get_or xs m d → (q : ℕ) → i ≡ q + 1 → n ≤ q → R (get_or (insert xs n x) i d) (get_or (insert xs n x) j d)
      further m at in_xs high q low_at up =
          let low : get_or (insert xs n x) i d ≡ get_or xs q d = ap (λ p. get_or (insert xs n x) p d) low_at ∙ get_or-insert_above xs n x d q up le in
          rw (low, high) (h q m d (omega (arith, lt, at, low_at)) in_xs)

      behind : (m : ℕ) → j ≡ m + 1 → n ≤ m → m < length xs → R (get_or (insert xs n x) i d) (get_or (insert xs n x) j d)
      behind m at le' in_xs =
          let high : get_or (insert xs n x) j d ≡ get_or xs m d = ap (λ q. get_or (insert xs n x) q d) at ∙ get_or-insert_above xs n x d m le' le in
          ⊎_elim
          (λ below. rw (get_or-insert_below xs n x d i below le, high) (h i m d (omega (arith, lt, at, below, le')) in_xs))
          (λ up. ⊎_elim
          (λ last. let same : i ≡ n = omega (arith, up, last) in subst (λ q. R (get_or (insert xs n x) q d) (get_or (insert xs n x) j d)) (sym same) (rw (get_or-insert_at xs n x d le, high) (back m d le' in_xs)))
          (λ past. further m at in_xs high (i - 1) (omega (arith, past)) (omega (arith, past)))
          (cases_lt i (n + 1)))
          (cases_lt i n)

-- what it adds to a count
abbrev tick : Bool → ℕ
tick b = if b then 1 else 0

more : (turn : ℕ) (rows : List Row) → (turn' : ℕ) → turn ≤ turn' → AreBorn turn rows → AreBorn turn' rows
more turn rows turn' le h = All-weaker (λ r. r.born ≤ turn) (λ r. r.born ≤ turn') (λ r b. omega (arith, b, le)) rows h

-- an owner takes an entry in its turn
pub begun : (turn turn' : ℕ) (entries rows : List Row) (r : Row) (n : ℕ) → turn ≤ turn' → r.born ≡ turn → n ≤ length rows
    → IsPartitionPoint (λ x. stands_before x r ≡ true) (λ x. stands_before x r ≡ false) rows n
    → AreEntries turn entries rows → AreEntries turn' (entries ++ r ∷ []) (insert rows n r)
begun turn turn' entries rows r n le is low point h = record {
  owners = pairs_insert (λ a b. stands_before b a ≡ false) rows n r low h.owners
      (λ k d lt. after (get_or rows k d) r (point.0 k d (omega arith) lt)) (λ k d from lt. point.1 k d from lt);
  turns = all_pairs_push (λ a b. a.born ≤ b.born) entries r h.turns (λ k d lt. let b = All-get_or (λ x. x.born ≤ turn) entries k d lt h.born_turns in omega (arith, b, is));
  born_owners = All-append (λ x. x.born ≤ turn') (take n rows) (r ∷ drop n rows) (All-take (λ x. x.born ≤ turn') n rows wide)
      (All-cons (λ x. x.born ≤ turn') r (drop n rows) (omega (arith, is, le)) (All-drop (λ x. x.born ≤ turn') n rows wide));
  born_turns = All-push (λ x. x.born ≤ turn') entries r (more turn entries turn' le h.born_turns) (omega (arith, is, le));
  among = λ k. let a = h.among k in
      let b = sum_by_push (λ x. if is_row k x then 1 else 0) entries r in
      let c = sum_by-insert (λ x. if is_row k x then 1 else 0) rows n r in omega (arith, a, b, c);
}
  where
    wide : AreBorn turn' rows
    wide = more turn rows turn' le h.born_owners

fewer : (p : Row → Bool) (xs : List Row) (n : ℕ) (d : Row) → n < length xs → count_by p (remove xs n) + tick (p (get_or xs n d)) ≡ count_by p xs
fewer p xs n d lt = sum_by-remove (λ x. if p x then 1 else 0) xs n d lt

same_test : (k a b : Row) → is_row a b ≡ true → is_row k a ≡ is_row k b
same_test k a b e = grind (arith, nat_tests)

like : (k a b : Row) → is_row a b ≡ true → tick (is_row k a) ≡ tick (is_row k b)
like k a b e = ap tick (same_test k a b e)

born_removed : (turn : ℕ) (rows : List Row) (n : ℕ) → AreBorn turn rows → AreBorn turn (remove rows n)
born_removed turn rows n h = All-append (λ x. x.born ≤ turn) (take n rows) (drop (suc n) rows) (All-take (λ x. x.born ≤ turn) n rows h) (All-drop (λ x. x.born ≤ turn) (suc n) rows h)

-- an entry is given up, and its row goes
pub gone : (turn : ℕ) (entries rows : List Row) (place n : ℕ) (d : Row) → place < length entries → n < length rows → is_row (get_or entries place d) (get_or rows n d) ≡ true
    → AreEntries turn entries rows → AreEntries turn (remove entries place) (remove rows n)
gone turn entries rows place n d a b is h = record {
  owners = all_pairs_remove (λ x y. stands_before y x ≡ false) rows n b h.owners;
  turns = all_pairs_remove (λ x y. x.born ≤ y.born) entries place a h.turns;
  born_owners = born_removed turn rows n h.born_owners;
  born_turns = born_removed turn entries place h.born_turns;
  among = λ k.
      let am = h.among k in
      let s = fewer (is_row k) entries place d a in
      let r = fewer (is_row k) rows n d b in
      let same = like k (get_or entries place d) (get_or rows n d) is in
      omega (arith, am, s, r, same);
}

-- an entry is given up that has no row
pub gone_alone : (turn : ℕ) (entries rows : List Row) (place : ℕ) (d : Row) → place < length entries → AreEntries turn entries rows → AreEntries turn (remove entries place) rows
gone_alone turn entries rows place d a h = record {
  owners = h.owners;
  turns = all_pairs_remove (λ x y. x.born ≤ y.born) entries place a h.turns;
  born_owners = h.born_owners;
  born_turns = born_removed turn entries place h.born_turns;
  among = λ k. let am = h.among k in let s = fewer (is_row k) entries place d a in omega (arith, am, s);
}

-- ---- the first row of an owner tells from which turn on it may have an entry

passed : (p : Row → Bool) (xs : List Row) (i : ℕ) (d : Row) → i < length xs → p (get_or xs i d) ≡ true → 0 < count_by p xs
passed p xs i d lt e =
    let s = fewer p xs i d lt in
    let one : tick (p (get_or xs i d)) ≡ 1 = ap tick e in
    omega (arith, s, one)

none_first : (p : Row → Bool) (x : Row) (xs : List Row) → p x ≡ false → count_by p (x ∷ xs) ≡ count_by p xs
none_first p x xs e =
    let none : tick (p x) ≡ 0 = ap tick e in
    let sum : count_by p (x ∷ xs) ≡ tick (p x) + count_by p xs = sum_by-cons (λ y. tick (p y)) x xs in
    omega (arith, none, sum)

one_on : (p : Row → Bool) (x : Row) (xs : List Row) → Any (λ y. p y ≡ true) xs → Any (λ y. p y ≡ true) (x ∷ xs)
one_on p x xs (k, y, lt, at, e) = (suc k, y, omega (arith, lt), at, e)

some_passes : (p : Row → Bool) (xs : List Row) → 0 < count_by p xs → Any (λ x. p x ≡ true) xs
some_passes p [] h = absurd (omega (arith, h))
some_passes p (x ∷ xs) h = by_first (some_passes p xs) (p x) refl
  where
    by_first : (0 < count_by p xs → Any (λ y. p y ≡ true) xs) → (b : Bool) → p x ≡ b → Any (λ y. p y ≡ true) (x ∷ xs)
    by_first on true e = (0, x, omega arith, refl, e)
    by_first on false e = let sum = none_first p x xs e in one_on p x xs (on (omega (arith, h, sum)))

-- a row that doesn't come before the owner's first turn, and that a row of the owner doesn't come before
first_of_owner : (o : Owner) (a r : Row) → stands_before r (record { owner = o; born = 0 }) ≡ false → stands_before a r ≡ false → (rank_of a.owner == rank_of o) ≡ true
    → ((rank_of r.owner == rank_of o) ≡ true) × (r.born ≤ a.born)
first_of_owner o a r from rise mine = (grind (arith, nat_tests), grind (arith, nat_tests))

not_first : (o : Owner) (a : Row) → (rank_of a.owner == rank_of o) ≡ true → stands_before a (record { owner = o; born = 0 }) ≡ false
not_first o a e = grind (arith, nat_tests)

not_itself : (r : Row) → stands_before r r ≡ false
not_itself r = grind (arith, nat_tests)

of_one : (o : Owner) (s r : Row) → is_row s r ≡ true → same_owner s.owner o ≡ true → ((rank_of r.owner == rank_of o) ≡ true) × (r.born ≡ s.born)
of_one o s r e f = let g : (rank_of s.owner == rank_of o) ≡ true = sym (same_rank s.owner o) ∙ f in (grind (arith, nat_tests), grind (arith, nat_tests))

not_after : (rows : List Row) (n i : ℕ) (d : Row) → AreByOwner rows → n ≤ i → i < length rows → stands_before (get_or rows i d) (get_or rows n d) ≡ false
not_after rows n i d h le lt =
    ⊎_elim
    (λ l. h n i d l lt)
    (λ g. let same : n ≡ i = omega (arith, le, g) in subst (λ m. stands_before (get_or rows i d) (get_or rows m d) ≡ false) (sym same) (not_itself (get_or rows i d)))
    (cases_lt n i)

-- What an entry of that owner says of the first row that doesn't come before the owner's first turn.
pub record Hinted (o : Owner) (s : Row) (n : ℕ) (rows : List Row) (d : Row) : Type 0 where
  pub stands : n < length rows
  pub mine : same_owner (get_or rows n d).owner o ≡ true
  pub born : (get_or rows n d).born ≤ s.born

-- the facts of one of the owner's rows, in the place of `i`
hinted_at : (o : Owner) (s : Row) (n i : ℕ) (rows : List Row) (d : Row) → AreByOwner rows
    → IsPartitionPoint (λ x. stands_before x (record { owner = o; born = 0 }) ≡ true) (λ x. stands_before x (record { owner = o; born = 0 }) ≡ false) rows n
    → i < length rows → (rank_of (get_or rows i d).owner == rank_of o) ≡ true → (get_or rows i d).born ≡ s.born → Hinted o s n rows d
hinted_at o s n i rows d h point lt own born = by_place (cases_lt i n)
  where
    behind : n ≤ i → Hinted o s n rows d
    behind le =
        let low : n < length rows = omega (arith, le, lt) in
        let first = first_of_owner o (get_or rows i d) (get_or rows n d) (point.1 n d (omega arith) low) (not_after rows n i d h le lt) own in
        record { stands = low; mine = same_rank (get_or rows n d).owner o ∙ first.0; born = omega (arith, first.1, born) }

    by_place : (i < n) ⊎ (n ≤ i) → Hinted o s n rows d
    by_place (inl l) = absurd (false≢true (sym (not_first o (get_or rows i d) own) ∙ point.0 i d (omega arith) l))
    by_place (inr le) = behind le

hinted_by : (o : Owner) (s : Row) (n : ℕ) (rows : List Row) (d : Row) → AreByOwner rows
    → IsPartitionPoint (λ x. stands_before x (record { owner = o; born = 0 }) ≡ true) (λ x. stands_before x (record { owner = o; born = 0 }) ≡ false) rows n
    → same_owner s.owner o ≡ true → Any (λ x. is_row s x ≡ true) rows → Hinted o s n rows d
hinted_by o s n rows d h point own (i, x, lt, at, e) =
    let same : get_or rows i d ≡ x = get_or_default rows i d x lt ∙ at in
    let told = of_one o s x e own in
    hinted_at o s n i rows d h point lt (ap (λ (r : Row). rank_of r.owner == rank_of o) same ∙ told.0) (ap (λ (r : Row). r.born) same ∙ told.1)

-- each entry of the owner
pub hinted : (o : Owner) (turn n j : ℕ) (entries rows : List Row) (d : Row) → AreEntries turn entries rows
    → IsPartitionPoint (λ x. stands_before x (record { owner = o; born = 0 }) ≡ true) (λ x. stands_before x (record { owner = o; born = 0 }) ≡ false) rows n
    → j < length entries → same_owner (get_or entries j d).owner o ≡ true → Hinted o (get_or entries j d) n rows d
hinted o turn n j entries rows d h point lt own =
    let s : Row = get_or entries j d in
    let itself : is_row s s ≡ true = grind (arith, nat_tests) in
    let there : 0 < count_by (is_row s) entries = passed (is_row s) entries j d lt itself in
    let among : count_by (is_row s) entries ≤ count_by (is_row s) rows = h.among s in
    hinted_by o s n rows d h.owners point own (some_passes (is_row s) rows (omega (arith, there, among)))

-- ---- where an owner's process stands

pub absent : (o : Owner) (turn n : ℕ) (entries rows : List Row) → AreEntries turn entries rows
    → IsPartitionPoint (λ x. stands_before x (record { owner = o; born = 0 }) ≡ true) (λ x. stands_before x (record { owner = o; born = 0 }) ≡ false) rows n
    → ((j : ℕ) (d : Row) → Hinted o (get_or entries j d) n rows d → ⊥) → position (λ r. same_owner r.owner o) entries ≡ None
absent o turn n entries rows h point none = position_none (λ r. same_owner r.owner o) entries
    (λ k d lt. cases (same_owner (get_or entries k d).owner o) k d lt refl)
  where
    cases : (b : Bool) → (k : ℕ) (d : Row) → k < length entries → same_owner (get_or entries k d).owner o ≡ b → b ≡ false
    cases true k d lt e = absurd (none k d (hinted o turn n k entries rows d h point lt e))
    cases false k d lt e = refl

-- no row stands there
pub past_rows : (o : Owner) (turn n : ℕ) (entries rows : List Row) → AreEntries turn entries rows
    → IsPartitionPoint (λ x. stands_before x (record { owner = o; born = 0 }) ≡ true) (λ x. stands_before x (record { owner = o; born = 0 }) ≡ false) rows n
    → length rows ≤ n → position (λ r. same_owner r.owner o) entries ≡ None
past_rows o turn n entries rows h point past = absent o turn n entries rows h point (λ j d t. omega (arith, t.stands, past))

-- the row there is another owner's
pub anothers : (o : Owner) (turn n : ℕ) (entries rows : List Row) (r : Row) → AreEntries turn entries rows
    → IsPartitionPoint (λ x. stands_before x (record { owner = o; born = 0 }) ≡ true) (λ x. stands_before x (record { owner = o; born = 0 }) ≡ false) rows n
    → r ≡ get_or rows n r → same_owner r.owner o ≡ false → position (λ r. same_owner r.owner o) entries ≡ None
anothers o turn n entries rows r h point at other = absent o turn n entries rows h point (λ j d t.
    let same : get_or rows n d ≡ r = get_or_default rows n d r t.stands ∙ sym at in
    false≢true (sym other ∙ ap (λ (x : Row). same_owner x.owner o) (sym same) ∙ t.mine))

-- before the turn of the owner's row no entry is the owner's
pub none_before : (o : Owner) (turn n m : ℕ) (entries rows : List Row) (r : Row) → AreEntries turn entries rows
    → IsPartitionPoint (λ x. stands_before x (record { owner = o; born = 0 }) ≡ true) (λ x. stands_before x (record { owner = o; born = 0 }) ≡ false) rows n
    → IsPartitionPoint (λ x. nat_lt x.born r.born ≡ true) (λ x. nat_lt x.born r.born ≡ false) entries m → m ≤ length entries
    → r ≡ get_or rows n r → (k : ℕ) (d : Row) → k < m → same_owner (get_or entries k d).owner o ≡ false
none_before o turn n m entries rows r h point turns low at k d lt = cases (same_owner (get_or entries k d).owner o) refl
  where
    early : nat_lt (get_or entries k d).born r.born ≡ true
    early = turns.0 k d (omega arith) lt

    late : Hinted o (get_or entries k d) n rows d → ⊥
    late t =
        let same : (get_or rows n d).born ≡ r.born = ap (λ (x : Row). x.born) (get_or_default rows n d r t.stands ∙ sym at) in
        let born = t.born in
        grind (arith, nat_tests)

    cases : (b : Bool) → same_owner (get_or entries k d).owner o ≡ b → b ≡ false
    cases true e = absurd (late (hinted o turn n k entries rows d h point (omega (arith, lt, low)) e))
    cases false e = refl

-- ---- the owners that the entries tell

pub owners_removed : (entries : List Row) (n : ℕ) → map (λ r. r.owner) (remove entries n) ≡ remove (map (λ r. r.owner) entries) n
owners_removed entries n =
    map-append (λ (r : Row). r.owner) (take n entries) (drop (suc n) entries)
    ∙ ap (λ l. l ++ map (λ r. r.owner) (drop (suc n) entries)) (sym (take-map (λ (r : Row). r.owner) n entries))
    ∙ ap (λ l. take n (map (λ r. r.owner) entries) ++ l) (sym (drop-map (λ (r : Row). r.owner) (suc n) entries))

position_or_len_map : (p : Owner → Bool) (entries : List Row) → position_or_len p (map (λ r. r.owner) entries) ≡ position_or_len (λ r. p r.owner) entries
position_or_len_map p [] = refl
position_or_len_map p (r ∷ rs) = ap (λ n. if not (p r.owner) then 1 + n else 0) (position_or_len_map p rs)

pub place_told : (o : Owner) (entries : List Row) → place_in o (map (λ r. r.owner) entries) ≡ position (λ r. same_owner r.owner o) entries
place_told o entries =
    ap (λ n. if nat_lt n (length (map (λ r. r.owner) entries)) then Some n else None) (position_or_len_map (λ x. same_owner x o) entries)
    ∙ ap (λ m. if nat_lt (position_or_len (λ r. same_owner r.owner o) entries) m then Some (position_or_len (λ r. same_owner r.owner o) entries) else None) (length-map entries (λ (r : Row). r.owner))

-- what a value's owners tell, of the entries that are lent
pub place_seen : (o : Owner) (owners : List Owner) (entries lent : List Row) → map (λ r. r.owner) entries ≡ owners → lent ≡ entries → place_in o owners ≡ position (λ r. same_owner r.owner o) lent
place_seen o owners entries lent e f = ap (place_in o) (sym e) ∙ ap (λ (l : List Row). place_in o (map (λ r. r.owner) l)) (sym f) ∙ place_told o lent
