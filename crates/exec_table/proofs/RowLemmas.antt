-- Rows and what they mean: one changed, one found, and room at a place.
use Rattle.std.proofs.Common.{◌≡◌, ℕ, ◌+◌, ◌-◌, ◌<◌, ◌≤◌, zero, suc, Bool, true, false, not, cond, List, [], ◌∷◌, ◌++◌, Some, None, refl, ap, sym, ◌∙◌, subst, arith, map, filter, find, length, get_or, slice_set, position, nat_lt, eqb, if◌then◌else◌, option_map}
use Rattle.std.specs.Prelude.{slice_index, Result, Ok, Err, OnOk}
use Rattle.std.specs.List.{position_or_len, prefix_len}
use Rattle.std.proofs.Math.ListN.{set}
use Rattle.std.proofs.lemmas.List.Quantifiers.{position-Some}
use Rattle.std.proofs.lemmas.List.{get_or-map, length-map}
use Rattle.engine_text.specs.Lists.{update_first}
use Rattle.engine_text.specs.declared.exec.Exec.{Exec}
use Rattle.engine_text.proofs.PlaceLemmas.{find_at, find_nowhere}
use Rattle.container_table.specs.Logs.{AreNoLess}
use Rattle.exec_table.specs.Execs.{exec_numbered, is_output_numbered, rooms_used, rooms_without}
use Rattle.exec_table.specs.ExecsInside.{execs_in, output_in, outputs_in, room_in}
use Rattle.exec_table.specs.declared.row.Row.{Row}

module _ {A B : Type 0} (p : B → Bool) (g : A → B) where
  -- ---- what is found

  pub find_in : (xs : List A) → find p (map g xs) ≡ option_map g (find (λ x. p (g x)) xs)
  find_in [] = refl
  find_in (x ∷ xs) = go (p (g x)) (find_in xs)
    where
      go : (b : Bool) → find p (map g xs) ≡ option_map g (find (λ x. p (g x)) xs) → (if b then Some (g x) else find p (map g xs)) ≡ option_map g (if b then Some x else find (λ x. p (g x)) xs)
      go true e = refl
      go false e = e

  pub found_in : (xs : List A) (i : ℕ) (x : A) → position (λ x. p (g x)) xs ≡ Some i → x ≡ get_or xs i x → find p (map g xs) ≡ Some (g x)
  found_in xs i x e read = find_in xs ∙ ap (option_map g) (find_at (λ x. p (g x)) xs i x e) ∙ ap (λ y. Some (g y)) (sym read)

  pub none_in : (xs : List A) → position (λ x. p (g x)) xs ≡ None → find p (map g xs) ≡ None
  none_in xs e = find_in xs ∙ ap (option_map g) (find_nowhere (λ x. p (g x)) xs e)

  -- ---- one changed

  pub changed_in : (f : B → B) (xs : List A) (i : ℕ) (d y : A) → position (λ x. p (g x)) xs ≡ Some i → g y ≡ f (g (get_or xs i d)) → map g (slice_set xs i y) ≡ update_first p f (map g xs)
  changed_in f xs i d y e h = let q = position-Some (λ x. p (g x)) xs i d e in go xs i q.0 q.1 q.2 h
    where
      go : (xs : List A) (i : ℕ) → i < length xs → p (g (get_or xs i d)) ≡ true → ((k : ℕ) → k < i → p (g (get_or xs k d)) ≡ false) → g y ≡ f (g (get_or xs i d)) → map g (set xs i y) ≡ update_first p f (map g xs)
      go [] i low here before e = absurd (omega arith)
      go (x ∷ xs) zero low here before e = ap (λ z. z ∷ map g xs) e ∙ sym (ap (λ c. if c then f (g x) ∷ map g xs else g x ∷ update_first p f (map g xs)) here)
      go (x ∷ xs) (suc i) low here before e =
          let first : p (g x) ≡ false = before 0 (omega arith) in
          ap (λ l. g x ∷ l) (go xs i (omega arith) here (λ k h. before (suc k) (omega arith)) e)
          ∙ sym (ap (λ c. if c then f (g x) ∷ map g xs else g x ∷ update_first p f (map g xs)) first)

  none_found : (f : B → B) (xs : List A) → find (λ x. p (g x)) xs ≡ None → map g xs ≡ update_first p f (map g xs)
  none_found f [] e = refl
  none_found f (x ∷ xs) e = go (p (g x)) e (none_found f xs)
    where
      go : (b : Bool) → (if b then Some x else find (λ y. p (g y)) xs) ≡ None → (find (λ y. p (g y)) xs ≡ None → map g xs ≡ update_first p f (map g xs))
          → g x ∷ map g xs ≡ (if b then f (g x) ∷ map g xs else g x ∷ update_first p f (map g xs))
      go true n more = absurd (cc)
      go false n more = ap (λ l. g x ∷ l) (more n)

  pub unchanged_in : (f : B → B) (xs : List A) → position (λ x. p (g x)) xs ≡ None → map g xs ≡ update_first p f (map g xs)
  unchanged_in f xs e = none_found f xs (find_nowhere (λ x. p (g x)) xs e)

  -- ---- the same place among what the items mean

  place_either : (b : Bool) (m n : ℕ) → m ≡ n → cond b (1 + m) 0 ≡ cond b (1 + n) 0
  place_either true m n e = ap (λ k. 1 + k) e
  place_either false m n e = refl

  prefix_in : (q : B → Bool) (xs : List A) → prefix_len q (map g xs) ≡ prefix_len (λ x. q (g x)) xs
  prefix_in q [] = refl
  prefix_in q (x ∷ xs) = place_either (q (g x)) (prefix_len q (map g xs)) (prefix_len (λ y. q (g y)) xs) (prefix_in q xs)

  pub place_in : (xs : List A) → position p (map g xs) ≡ position (λ x. p (g x)) xs
  place_in xs =
      let l : length (map g xs) ≡ length xs = simp length-map refl in
      ap (λ k. cond (nat_lt k (length (map g xs))) (Some k) None) (prefix_in (λ y. not (p y)) xs)
      ∙ ap (λ k. cond (nat_lt (position_or_len (λ x. p (g x)) xs) k) (Some (position_or_len (λ x. p (g x)) xs)) None) l

-- a change that means the same
pub set_same : {A B : Type 0} (g : A → B) (d y : A) (xs : List A) (i : ℕ) → g y ≡ g (get_or xs i d) → map g (set xs i y) ≡ map g xs
set_same g d y [] i e = refl
set_same g d y (x ∷ xs) zero e = ap (λ z. z ∷ map g xs) e
set_same g d y (x ∷ xs) (suc i) e = ap (λ l. g x ∷ l) (set_same g d y xs i e)

-- ---- room

pub room_of : {A : Type 0} (room : A → ℕ) (items : List A) (i : ℕ) (h : A) → i < length items → h ≡ get_or items i h → 0 < slice_index (map room items) i → 0 < room h
room_of room items i h low is there =
    let e : get_or (map room items) i 0 ≡ room h = get_or-map room items i h 0 low ∙ ap room (sym is) in
    omega (arith, e, there)

room_set : {A : Type 0} (room : A → ℕ) (xs : List A) (i : ℕ) (y : A) → i < length xs → get_or (map room (set xs i y)) i 0 ≡ room y
room_set room [] i y low = absurd (omega arith)
room_set room (x ∷ xs) zero y low = refl
room_set room (x ∷ xs) (suc i) y low = room_set room xs i y (omega arith)

-- where nothing is, no room is wanted
pub no_place : {A B : Type 0} (p : B → Bool) (g : A → B) (room : A → ℕ) (items : List A) → position (λ x. p (g x)) items ≡ None → (j : ℕ) → position p (map g items) ≡ Some j → 0 < slice_index (map room items) j
no_place p g room items at j there = let both : Some j ≡ None = sym there ∙ (place_in p g items ∙ at) in absurd (cc)

-- room is made at the place
pub made_at : {A B : Type 0} (p : B → Bool) (g : A → B) (room : A → ℕ) (items : List A) (i : ℕ) (y : A) → position (λ x. p (g x)) items ≡ Some i → map g (set items i y) ≡ map g items → 0 < room y
    → (j : ℕ) → position p (map g (set items i y)) ≡ Some j → 0 < slice_index (map room (set items i y)) j
made_at p g room items i y at same more j there =
    let one : Some j ≡ Some i = sym there ∙ (ap (position p) same ∙ (place_in p g items ∙ at)) in
    let equal : j ≡ i = cc in
    let q = position-Some (λ x. p (g x)) items i y at in
    let e : get_or (map room (set items i y)) i 0 ≡ room y = room_set room items i y q.0 in
    let low : 0 < get_or (map room (set items i y)) i 0 = omega (arith, e, more) in
    subst (λ (k : ℕ). 0 < get_or (map room (set items i y)) k 0) (sym equal) low

-- what is known of an Ok
pub on_ok : {T E : Type 0} (r : Result T E) (P Q : Type 0) → (P → Q) → OnOk r P → OnOk r Q
on_ok (Ok x) P Q f h = f h
on_ok (Err e) P Q f h = tt

pub no_less_itself : (rooms : List ℕ) → AreNoLess rooms rooms
no_less_itself [] = tt
no_less_itself (r ∷ rooms) = (omega arith, no_less_itself rooms)

-- one of the rooms is no less
pub no_less : (rows : List Row) (i : ℕ) (d y : Row) → room_in (get_or rows i d) ≤ room_in y → AreNoLess (map room_in rows) (map room_in (set rows i y))
no_less [] i d y e = tt
no_less (x ∷ xs) zero d y e = (e, no_less_itself (map room_in xs))
no_less (x ∷ xs) (suc i) d y e = (omega arith, no_less xs i d y e)

-- the room of an output is used
pub room_used : (n : ℕ) (rows : List Row) (i : ℕ) (d y : Row) → position (λ r. eqb r.exec.number n) rows ≡ Some i → room_in y ≡ room_in (get_or rows i d) - 1
    → map room_in (set rows i y) ≡ rooms_used n (execs_in rows) (map room_in rows)
room_used n rows i d y e h = let q = position-Some (λ (r : Row). eqb r.exec.number n) rows i d e in go rows i q.0 q.1 q.2 h
  where
    go : (xs : List Row) (i : ℕ) → i < length xs → eqb (get_or xs i d).exec.number n ≡ true → ((k : ℕ) → k < i → eqb (get_or xs k d).exec.number n ≡ false) → room_in y ≡ room_in (get_or xs i d) - 1
        → map room_in (set xs i y) ≡ rooms_used n (execs_in xs) (map room_in xs)
    go [] i low here before e = absurd (omega arith)
    go (x ∷ xs) zero low here before e = ap (λ z. z ∷ map room_in xs) e ∙ sym (ap (λ c. if c then (room_in x - 1) ∷ map room_in xs else room_in x ∷ rooms_used n (execs_in xs) (map room_in xs)) here)
    go (x ∷ xs) (suc i) low here before e =
        let first : eqb x.exec.number n ≡ false = before 0 (omega arith) in
        ap (λ l. room_in x ∷ l) (go xs i (omega arith) here (λ k h. before (suc k) (omega arith)) e)
        ∙ sym (ap (λ c. if c then (room_in x - 1) ∷ map room_in xs else room_in x ∷ rooms_used n (execs_in xs) (map room_in xs)) first)

none_used : (n : ℕ) (rows : List Row) → find (λ r. eqb r.exec.number n) rows ≡ None → map room_in rows ≡ rooms_used n (execs_in rows) (map room_in rows)
none_used n [] e = refl
none_used n (x ∷ xs) e = go (eqb x.exec.number n) e (none_used n xs)
  where
    go : (b : Bool) → (if b then Some x else find (λ r. eqb r.exec.number n) xs) ≡ None → (find (λ r. eqb r.exec.number n) xs ≡ None → map room_in xs ≡ rooms_used n (execs_in xs) (map room_in xs))
        → room_in x ∷ map room_in xs ≡ (if b then (room_in x - 1) ∷ map room_in xs else room_in x ∷ rooms_used n (execs_in xs) (map room_in xs))
    go true f more = absurd (cc)
    go false f more = ap (λ l. room_in x ∷ l) (more f)

-- where nothing is, no room is used
pub room_unused : (n : ℕ) (rows : List Row) → position (λ r. eqb r.exec.number n) rows ≡ None → map room_in rows ≡ rooms_used n (execs_in rows) (map room_in rows)
room_unused n rows e = none_used n rows (find_nowhere (λ (r : Row). eqb r.exec.number n) rows e)

-- the rooms of the rows that stay
pub rooms_left : (container : ℕ) (rows : List Row) → map room_in (filter (λ r. not (eqb r.exec.container container)) rows) ≡ rooms_without container (execs_in rows) (map room_in rows)
rooms_left container [] = refl
rooms_left container (x ∷ xs) = go (eqb x.exec.container container) (rooms_left container xs)
  where
    go : (b : Bool) → map room_in (filter (λ r. not (eqb r.exec.container container)) xs) ≡ rooms_without container (execs_in xs) (map room_in xs)
        → map room_in (if not b then x ∷ filter (λ r. not (eqb r.exec.container container)) xs else filter (λ r. not (eqb r.exec.container container)) xs)
        ≡ (if b then rooms_without container (execs_in xs) (map room_in xs) else room_in x ∷ rooms_without container (execs_in xs) (map room_in xs))
    go true more = more
    go false more = ap (λ l. room_in x ∷ l) more

-- ---- execs and outputs by number

pub exec_here : (n : ℕ) (rows : List Row) (i : ℕ) (r : Row) → position (λ r. eqb r.exec.number n) rows ≡ Some i → r ≡ get_or rows i r → exec_numbered n (execs_in rows) ≡ Some r.exec
exec_here n rows i r at read = found_in (λ (x : Exec). eqb x.number n) (λ (r : Row). r.exec) rows i r at read

pub no_exec : (n : ℕ) (rows : List Row) → position (λ r. eqb r.exec.number n) rows ≡ None → exec_numbered n (execs_in rows) ≡ None
no_exec n rows at = none_in (λ (x : Exec). eqb x.number n) (λ (r : Row). r.exec) rows at

pub output_here : (n : ℕ) (rows : List Row) (i : ℕ) (r : Row) → position (λ r. eqb r.exec.number n) rows ≡ Some i → r ≡ get_or rows i r → find (is_output_numbered n) (outputs_in rows) ≡ Some (output_in r)
output_here n rows i r at read = found_in (is_output_numbered n) output_in rows i r at read

pub no_output : (n : ℕ) (rows : List Row) → position (λ r. eqb r.exec.number n) rows ≡ None → find (is_output_numbered n) (outputs_in rows) ≡ None
no_output n rows at = none_in (is_output_numbered n) output_in rows at

pub more_in : {A B : Type 0} (g : A → B) (xs : List A) (x : A) → map g (xs ++ x ∷ []) ≡ map g xs ++ g x ∷ []
more_in g [] x = refl
more_in g (y ∷ ys) x = ap (λ l. g y ∷ l) (more_in g ys x)

pub rows_counted : (rows : List Row) → length (execs_in rows) ≡ length rows
rows_counted rows = simp length-map refl
