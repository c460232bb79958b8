-- Places in memory: room at them, and the same place among what the items mean.
use Rattle.std.proofs.Common.{◌≡◌, ℕ, ◌+◌, ◌<◌, zero, suc, Bool, true, false, not, cond, List, [], ◌∷◌, Some, None, refl, ap, sym, ◌∙◌, subst, arith, map, length, get_or, position, nat_lt, slice_index}
use Rattle.std.specs.Prelude.{Result, Ok, Err, OnOk}
use Rattle.std.specs.List.{position_or_len, prefix_len}
use Rattle.std.proofs.Math.ListN.{set}
use Rattle.std.proofs.lemmas.List.Quantifiers.{position-Some}
use Rattle.std.proofs.lemmas.List.{get_or-map, length-map}

-- the room at a place is that of the item there
pub room_of : {A : Type 0} (room : A → ℕ) (items : List A) (i : ℕ) (h : A) → i < length items → h ≡ get_or items i h → 0 < slice_index (map room items) i → 0 < room h
room_of room items i h low is there =
    let e : get_or (map room items) i 0 ≡ room h = get_or-map room items i h 0 low ∙ ap room (sym is) in
    omega (arith, e, there)

place_either : (b : Bool) (m n : ℕ) → m ≡ n → cond b (1 + m) 0 ≡ cond b (1 + n) 0
place_either true m n e = ap (λ k. 1 + k) e
place_either false m n e = refl

prefix_in : {A B : Type 0} (q : B → Bool) (g : A → B) (xs : List A) → prefix_len q (map g xs) ≡ prefix_len (λ x. q (g x)) xs
prefix_in q g [] = refl
prefix_in q g (x ∷ xs) = place_either (q (g x)) (prefix_len q (map g xs)) (prefix_len (λ y. q (g y)) xs) (prefix_in q g xs)

pub place_in : {A B : Type 0} (p : B → Bool) (g : A → B) (xs : List A) → position p (map g xs) ≡ position (λ x. p (g x)) xs
place_in p g xs =
    let l : length (map g xs) ≡ length xs = simp length-map refl in
    ap (λ k. cond (nat_lt k (length (map g xs))) (Some k) None) (prefix_in (λ y. not (p y)) g xs)
    ∙ ap (λ k. cond (nat_lt (position_or_len (λ x. p (g x)) xs) k) (Some (position_or_len (λ x. p (g x)) xs)) None) l

-- where nothing is, no room is wanted
pub no_place : {A B : Type 0} (p : B → Bool) (g : A → B) (room : A → ℕ) (items : List A) → position (λ x. p (g x)) items ≡ None → (j : ℕ) → position p (map g items) ≡ Some j → 0 < slice_index (map room items) j
no_place p g room items at j there = let both : Some j ≡ None = sym there ∙ (place_in p g items ∙ at) in absurd (cc)

-- an item with another room means the same
pub set_same : {A B : Type 0} (g : A → B) (d y : A) (xs : List A) (i : ℕ) → g y ≡ g (get_or xs i d) → map g (set xs i y) ≡ map g xs
set_same g d y [] i e = refl
set_same g d y (x ∷ xs) zero e = ap (λ z. z ∷ map g xs) e
set_same g d y (x ∷ xs) (suc i) e = ap (λ l. g x ∷ l) (set_same g d y xs i e)

room_set : {A : Type 0} (room : A → ℕ) (xs : List A) (i : ℕ) (y : A) → i < length xs → get_or (map room (set xs i y)) i 0 ≡ room y
room_set room [] i y low = absurd (omega arith)
room_set room (x ∷ xs) zero y low = refl
room_set room (x ∷ xs) (suc i) y low = room_set room xs i y (omega arith)

-- room is made at the place
pub made_at : {A B : Type 0} (p : B → Bool) (g : A → B) (room : A → ℕ) (items : List A) (i : ℕ) (y : A) → position (λ x. p (g x)) items ≡ Some i → map g (set items i y) ≡ map g items → 0 < room y
    → (j : ℕ) → position p (map g (set items i y)) ≡ Some j → 0 < slice_index (map room (set items i y)) j
made_at p g room items i y at same more j there =
    let one : Some j ≡ Some i = sym there ∙ (ap (position p) same ∙ (place_in p g items ∙ at)) in
    let equal : j ≡ i = cc in
    let q = position-Some (λ x. p (g x)) items i y at in
    let e : get_or (map room (set items i y)) i 0 ≡ room y = room_set room items i y q.0 in
    let low : 0 < get_or (map room (set items i y)) i 0 = omega (arith, e, more) in
    subst (λ (k : ℕ). 0 < get_or (map room (set items i y)) k 0) (sym equal) low

-- what is known of an Ok
pub on_ok : {T E : Type 0} (r : Result T E) (P Q : Type 0) → (P → Q) → OnOk r P → OnOk r Q
on_ok (Ok x) P Q f h = f h
on_ok (Err e) P Q f h = tt
