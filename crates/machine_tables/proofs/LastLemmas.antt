-- The last items of a list.
use Rattle.std.proofs.Common.{◌≡◌, ℕ, zero, suc, ◌+◌, ◌-◌, ◌<◌, ◌≤◌, List, [], ◌∷◌, ◌++◌, refl, ap, sym, ◌∙◌, arith, length, drop, min, length-append, length-drop}
use Rattle.std.specs.List.{remove}
use Rattle.std.proofs.Math.Seq.{drop-nil}
use Rattle.container_table.specs.Lists.{last_of}

-- where there are no more than so many, all are the last
pub last_all : {A : Type 0} (k : ℕ) (xs : List A) → length xs ≤ k → last_of k xs ≡ xs
last_all k xs few = let none : length xs - k ≡ 0 = omega (arith, few) in ap (λ n. drop n xs) none

-- the first is none of the last
pub last_tail : {A : Type 0} (k : ℕ) (x : A) (xs : List A) → k ≤ length xs → last_of k (x ∷ xs) ≡ last_of k xs
last_tail k x xs many = let more : suc (length xs) - k ≡ suc (length xs - k) = omega (arith, many) in ap (λ n. drop n (x ∷ xs)) more

pub last_removed : {A : Type 0} (k : ℕ) (xs : List A) → k < length xs → last_of k (remove xs 0) ≡ last_of k xs
last_removed k [] many = absurd (omega arith)
last_removed k (x ∷ xs) many = sym (last_tail k x xs (omega arith))

pub length_last : {A : Type 0} (k : ℕ) (xs : List A) → length (last_of k xs) ≡ min k (length xs)
length_last k xs = omega (arith, length-drop (length xs - k) xs)

-- the last of more go by the last
drop_front : {A : Type 0} (n : ℕ) (xs ys : List A) → n ≤ length xs → drop n (xs ++ ys) ≡ drop n xs ++ ys
drop_front zero xs ys low = refl
drop_front (suc n) [] ys low = absurd (omega arith)
drop_front (suc n) (x ∷ xs) ys low = drop_front n xs ys (omega arith)

drop_twice : {A : Type 0} (n m : ℕ) (xs : List A) → drop m (drop n xs) ≡ drop (n + m) xs
drop_twice zero m xs = let e : m ≡ 0 + m = omega arith in ap (λ k. drop k xs) e
drop_twice (suc n) m [] = drop-nil m ∙ sym (drop-nil (suc n + m))
drop_twice (suc n) m (x ∷ xs) = let e : suc (n + m) ≡ suc n + m = omega arith in drop_twice n m xs ∙ ap (λ k. drop k (x ∷ xs)) e

pub last_more : {A : Type 0} (k : ℕ) (xs ys : List A) → last_of k (last_of k xs ++ ys) ≡ last_of k (xs ++ ys)
last_more k xs ys =
    let front : drop (length xs - k) (xs ++ ys) ≡ last_of k xs ++ ys = drop_front (length xs - k) xs ys (omega arith) in
    let size : length (last_of k xs ++ ys) ≡ min k (length xs) + length ys = length-append (last_of k xs) ys ∙ ap (λ n. n + length ys) (length_last k xs) in
    let whole : length (xs ++ ys) ≡ length xs + length ys = length-append xs ys in
    let place : (length xs - k) + (length (last_of k xs ++ ys) - k) ≡ length (xs ++ ys) - k = omega (arith, size, whole) in
    ap (drop (length (last_of k xs ++ ys) - k)) (sym front) ∙ (drop_twice (length xs - k) (length (last_of k xs ++ ys) - k) (xs ++ ys) ∙ ap (λ n. drop n (xs ++ ys)) place)
