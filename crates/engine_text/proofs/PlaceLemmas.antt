-- own: what a list's first item that passes is, where it stands, and what a change there gives.
use Rattle.std.proofs.Common.{◌≡◌, ℕ, ◌+◌, ◌<◌, zero, suc, Bool, true, false, List, [], ◌∷◌, length, get_or, set, drop, filter, position, find, nat_lt, Option, Some, None, Result, Ok, Err, if◌then◌else◌, refl, sym, ap, subst, ◌∙◌, inl, inr, arith}
use Rattle.std.specs.List.{remove, position_or_len}
use Rattle.std.specs.List.Sorted.{IsStrictlySortedBy, IsBinarySearchResult, IsSearchInRange, IsNonDecreasingBy}
use Rattle.std.specs.Ordering.{is_eq, is_lt, ordering_index, ordering_reverse}
use Rattle.std.specs.Result.{result_ok}
use Rattle.std.specs.Cmp.{IsTotalOrder}
use Rattle.std.specs.declared.cmp.Ordering.{Ordering}
use Rattle.std.specs.declared.cmp.Ordering.TheVariants.{Less, Equal, Greater}
use Rattle.std.proofs.lemmas.List.Quantifiers.{position-Some}
use Rattle.std.proofs.lemmas.List.Sums.{position_or_len_is, fails_before_first}
use Rattle.std.proofs.lemmas.Bool.{cases_lt}
use Rattle.std.proofs.lemmas.List.Sorted.{searchable_from_sorted}
use Rattle.std.proofs.lemmas.Map.Keys.{Less-from_sorted}
use Rattle.std.proofs.lemmas.Bool.Decides.{nat_tests}
use Rattle.engine_text.specs.Lists.{update_first, remove_first}

module _ {X : Type 0} (p : X → Bool) where
  -- the first that passes stands at i
  pub record IsFirst (xs : List X) (i : ℕ) (d : X) : Type 0 where
    pub within : i < length xs
    pub passes : p (get_or xs i d) ≡ true
    pub before : (k : ℕ) → k < i → p (get_or xs k d) ≡ false

  first_at : (xs : List X) (i : ℕ) (d : X) → position p xs ≡ Some i → IsFirst xs i d
  first_at xs i d e = let q = position-Some p xs i d e in record { within = q.0; passes = q.1; before = q.2 }

  in_rest : (x : X) (xs : List X) (i : ℕ) (d : X) → IsFirst (x ∷ xs) (suc i) d → IsFirst xs i d
  in_rest x xs i d f = record { within = omega (arith, f.within); passes = f.passes; before = λ k b. f.before (suc k) (omega arith) }

  update_there : (f : X → X) (xs : List X) (i : ℕ) (d : X) → IsFirst xs i d → set xs i (f (get_or xs i d)) ≡ update_first p f xs
  update_there f [] i d h = absurd (omega (arith, h.within))
  update_there f (x ∷ xs) zero d h = rw h.passes refl
  update_there f (x ∷ xs) (suc i) d h = rw (h.before 0 (omega arith)) (ap (λ ys. x ∷ ys) (update_there f xs i d (in_rest x xs i d h)))

  -- The first that passes changed.
  pub update_at : (f : X → X) (xs : List X) (i : ℕ) (d : X) → position p xs ≡ Some i → set xs i (f (get_or xs i d)) ≡ update_first p f xs
  update_at f xs i d e = update_there f xs i d (first_at xs i d e)

  remove_there : (xs : List X) (i : ℕ) (d : X) → IsFirst xs i d → remove xs i ≡ remove_first p xs
  remove_there [] i d h = absurd (omega (arith, h.within))
  remove_there (x ∷ xs) zero d h = rw h.passes refl
  remove_there (x ∷ xs) (suc i) d h = rw (h.before 0 (omega arith)) (ap (λ ys. x ∷ ys) (remove_there xs i d (in_rest x xs i d h)))

  -- The first that passes taken away.
  pub remove_at : (xs : List X) (i : ℕ) (d : X) → position p xs ≡ Some i → remove xs i ≡ remove_first p xs
  remove_at xs i d e = remove_there xs i d (first_at xs i d e)

  find_there : (xs : List X) (i : ℕ) (d : X) → IsFirst xs i d → find p xs ≡ Some (get_or xs i d)
  find_there [] i d h = absurd (omega (arith, h.within))
  find_there (x ∷ xs) zero d h = rw h.passes refl
  find_there (x ∷ xs) (suc i) d h = rw (h.before 0 (omega arith)) (find_there xs i d (in_rest x xs i d h))

  -- The first that passes is found.
  pub find_at : (xs : List X) (i : ℕ) (d : X) → position p xs ≡ Some i → find p xs ≡ Some (get_or xs i d)
  find_at xs i d e = find_there xs i d (first_at xs i d e)

  -- no item passes
  pub record IsNowhere (xs : List X) : Type 0 where
    pub at : (k : ℕ) (d : X) → k < length xs → p (get_or xs k d) ≡ false

  off_front : (x : X) (xs : List X) → IsNowhere (x ∷ xs) → (p x ≡ false) × IsNowhere xs
  off_front x xs none = (none.at 0 x (omega arith), record { at = λ k d b. none.at (suc k) d (omega arith) })

  past_end : (b : Bool) (i : ℕ) → (if b then Some i else None) ≡ None → b ≡ false
  past_end true i e = absurd (cc)
  past_end false i e = refl

  -- Without a position none passes.
  pub nowhere : (xs : List X) → position p xs ≡ None → IsNowhere xs
  nowhere xs e =
      let off : nat_lt (position_or_len p xs) (length xs) ≡ false = past_end (nat_lt (position_or_len p xs) (length xs)) (position_or_len p xs) e in
      record { at = λ k d b. fails_before_first p xs k d (grind (arith, nat_tests, off)) }

  update_none : (f : X → X) (xs : List X) → IsNowhere xs → update_first p f xs ≡ xs
  update_none f [] none = refl
  update_none f (x ∷ xs) none = let q = off_front x xs none in rw q.0 (ap (λ ys. x ∷ ys) (update_none f xs q.1))

  -- Where none passes, nothing changes.
  pub update_nowhere : (f : X → X) (xs : List X) → position p xs ≡ None → update_first p f xs ≡ xs
  update_nowhere f xs e = update_none f xs (nowhere xs e)

  remove_none : (xs : List X) → IsNowhere xs → remove_first p xs ≡ xs
  remove_none [] none = refl
  remove_none (x ∷ xs) none = let q = off_front x xs none in rw q.0 (ap (λ ys. x ∷ ys) (remove_none xs q.1))

  -- Where none passes, nothing is taken away.
  pub remove_nowhere : (xs : List X) → position p xs ≡ None → remove_first p xs ≡ xs
  remove_nowhere xs e = remove_none xs (nowhere xs e)

  find_none : (xs : List X) → IsNowhere xs → find p xs ≡ None
  find_none [] none = refl
  find_none (x ∷ xs) none = let q = off_front x xs none in rw q.0 (find_none xs q.1)

  -- Where none passes, none is found.
  pub find_nowhere : (xs : List X) → position p xs ≡ None → find p xs ≡ None
  find_nowhere xs e = find_none xs (nowhere xs e)

  position_on : (xs : List X) (i : ℕ) (b : Bool) → position_or_len p xs ≡ i → nat_lt i (length xs) ≡ b → position p xs ≡ (if b then Some i else None)
  position_on xs i b e h = rw (e, h) refl

  -- The position of the first that passes.
  pub position_is : (xs : List X) (i : ℕ) (d : X) → IsFirst xs i d → position p xs ≡ Some i
  position_is xs i d h =
      position_on xs i true (position_or_len_is p xs i d (omega (arith, h.within)) h.before (λ _. h.passes)) (let w = h.within in grind (arith, nat_tests))

  -- There is no position where none passes.
  pub no_position : (xs : List X) → IsNowhere xs → position p xs ≡ None
  no_position [] none = refl
  no_position (x ∷ xs) none =
      let n = length (x ∷ xs) in
      position_on (x ∷ xs) n false (position_or_len_is p (x ∷ xs) n x (omega arith) (λ k b. none.at k x b) (λ b. absurd (omega arith))) (grind (arith, nat_tests))

  -- Where a search in what a vector lends found it.
  pub seen : (lent items : List X) (place r : Option ℕ) → place ≡ position p lent → lent ≡ items → place ≡ r → position p items ≡ r
  seen lent items place r e f g = ap (position p) (sym f) ∙ sym e ∙ g

  -- The item that was read there, changed.
  pub updated : (f : X → X) (items old : List X) (i : ℕ) (x : X) → position p items ≡ Some i → x ≡ get_or items i x → items ≡ old → set items i (f x) ≡ update_first p f old
  updated f items old i x e read v = ap (λ y. set items i (f y)) read ∙ update_at f items i x e ∙ ap (update_first p f) v

  pub not_updated : (f : X → X) (items old : List X) → position p items ≡ None → items ≡ old → old ≡ update_first p f old
  not_updated f items old e v = sym v ∙ sym (update_nowhere f items e) ∙ ap (update_first p f) v

  -- The item that was read there, found.
  pub found : (items old : List X) (i : ℕ) (x : X) → position p items ≡ Some i → x ≡ get_or items i x → items ≡ old → Some x ≡ find p old
  found items old i x e read v = ap Some read ∙ sym (find_at items i x e) ∙ ap (find p) v

  pub not_found : (items old : List X) → position p items ≡ None → items ≡ old → None ≡ find p old
  not_found items old e v = sym (find_nowhere items e) ∙ ap (find p) v

  filter_there : (xs : List X) (i : ℕ) (d : X) → IsFirst xs i d → filter p xs ≡ get_or xs i d ∷ filter p (drop (suc i) xs)
  filter_there [] i d h = absurd (omega (arith, h.within))
  filter_there (x ∷ xs) zero d h = rw h.passes refl
  filter_there (x ∷ xs) (suc i) d h = rw (h.before 0 (omega arith)) (filter_there xs i d (in_rest x xs i d h))

  -- The first that passes, and those of the rest.
  pub filter_at : (xs : List X) (i : ℕ) (x : X) → position p xs ≡ Some i → x ≡ get_or xs i x → filter p xs ≡ x ∷ filter p (drop (i + 1) xs)
  filter_at xs i x e read = subst (λ j. filter p xs ≡ x ∷ filter p (drop j xs)) {x = suc i} (omega arith) (rw (← read) at (filter_there xs i x (first_at xs i x e)))

  filter_none : (xs : List X) → IsNowhere xs → filter p xs ≡ []
  filter_none [] none = refl
  filter_none (x ∷ xs) none = let q = off_front x xs none in rw q.0 (filter_none xs q.1)

  -- Where none passes, none is left.
  pub filter_nowhere : (xs : List X) → position p xs ≡ None → filter p xs ≡ []
  filter_nowhere xs e = filter_none xs (nowhere xs e)

module _ {X K : Type 0} (R : K → K → Ordering) (total : IsTotalOrder R) (key : X → K) where
  -- the order of the items by their keys
  abbrev pub by_key : X → X → Ordering
  by_key a b = R (key a) (key b)

  reversed : (a b : K) → R a b ≡ Less → R b a ≡ Greater
  reversed a b e = total.antisymm b a ∙ ap ordering_reverse e

  -- In a list in order, the comparisons with a key rise.
  pub compared : (xs : List X) → IsStrictlySortedBy by_key xs → (k : K) → IsNonDecreasingBy (λ y. ordering_index (R (key y) k)) xs
  compared xs sorted k =
      searchable_from_sorted total key xs k (λ i d low high.
      let up = reversed _ _ (Less-from_sorted by_key xs i (i + 1) d sorted (omega arith) high) in
      ap is_lt up)

  module _ (p : X → Bool) (k : K) (test : (x : X) → p x ≡ is_eq (R (key x) k)) (xs : List X) (sorted : IsStrictlySortedBy by_key xs) where
    off : (x : X) (o : Ordering) → R (key x) k ≡ o → is_eq o ≡ false → p x ≡ false
    off x o e f = test x ∙ ap is_eq e ∙ f

    -- A key before one that is equal to k is below k.
    below : (a b : K) → R a b ≡ Less → R b k ≡ Equal → R a k ≡ Less
    below a b less same = total.antisymm a k ∙ ap ordering_reverse (sym (total.congr b k a same) ∙ reversed a b less)

    -- What halving finds in a list in order is the position.
    pub searched : (r : Result ℕ ℕ) → IsSearchInRange r (length xs) → IsBinarySearchResult (λ y. R (key y) k) xs r → result_ok r ≡ position p xs
    searched (Ok i) within equal = halved xs sorted i within equal
      where
        halved : (xs : List X) → IsStrictlySortedBy by_key xs → (i : ℕ) → i < length xs → ((d : X) → R (key (get_or xs i d)) k ≡ Equal) → Some i ≡ position p xs
        halved [] sorted i within equal = absurd (omega arith)
        halved (x ∷ xs) sorted i within equal = sym (position_is p (x ∷ xs) i x (record {
          within = within;
          passes = test (get_or (x ∷ xs) i x) ∙ ap is_eq (equal x);
          before = λ j b. off (get_or (x ∷ xs) j x) Less (below _ _ (Less-from_sorted by_key (x ∷ xs) j i x sorted b within) (equal x)) refl;
        }))
    searched (Err i) within parted =
        let parts = parted (compared xs sorted k) in
        sym (no_position p xs (record {
          at = λ j d b. elim (cases_lt j i) [
            | inl low ↦ off (get_or xs j d) Less (parts.0 j d (omega arith) low) refl
            | inr high ↦ off (get_or xs j d) Greater (parts.1 j d high b) refl
          ];
        }))
