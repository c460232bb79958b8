-- Numbers that are apart, and all below the next.
use Rattle.std.proofs.Common.{◌≡◌, ◌≤◌, ◌<◌, ◌+◌, ℕ, suc, List, [], ◌∷◌, ◌++◌, refl, sym, subst, arith, append_assoc, append-nil}
use Rattle.engine_loop.specs.Standing.{AreApart, AreBelow, IsNoneOf}

pub none_of_append : (k : ℕ) (xs ys : List ℕ) → IsNoneOf k xs → IsNoneOf k ys → IsNoneOf k (xs ++ ys)
none_of_append k [] ys f g = g
none_of_append k (x ∷ xs) ys f g = (f.0, none_of_append k xs ys f.1 g)

pub none_of_left : (k : ℕ) (xs ys : List ℕ) → IsNoneOf k (xs ++ ys) → IsNoneOf k xs
none_of_left k [] ys h = tt
none_of_left k (x ∷ xs) ys h = (h.0, none_of_left k xs ys h.1)

pub none_of_right : (k : ℕ) (xs ys : List ℕ) → IsNoneOf k (xs ++ ys) → IsNoneOf k ys
none_of_right k [] ys h = h
none_of_right k (x ∷ xs) ys h = none_of_right k xs ys h.1

-- the one in the middle is none of the others
pub apart_middle : (k : ℕ) (xs ys : List ℕ) → AreApart (xs ++ k ∷ ys) → IsNoneOf k xs × IsNoneOf k ys
apart_middle k [] ys h = (tt, h.0)
apart_middle k (x ∷ xs) ys h =
    let m = apart_middle k xs ys h.1 in
    ((λ is. (none_of_right x xs (k ∷ ys) h.0).0 (sym is), m.0), m.1)

pub apart_without : (k : ℕ) (xs ys : List ℕ) → AreApart (xs ++ k ∷ ys) → AreApart (xs ++ ys)
apart_without k [] ys h = h.1
apart_without k (x ∷ xs) ys h =
    (none_of_append x xs ys (none_of_left x xs (k ∷ ys) h.0) (none_of_right x xs (k ∷ ys) h.0).1, apart_without k xs ys h.1)

pub apart_last : (k : ℕ) (xs : List ℕ) → AreApart xs → IsNoneOf k xs → AreApart (xs ++ k ∷ [])
apart_last k [] h none = (tt, tt)
apart_last k (x ∷ xs) h none = (none_of_append x xs (k ∷ []) h.0 ((λ is. none.0 (sym is)), tt), apart_last k xs h.1 none.1)

pub apart_between : (k : ℕ) (xs ys : List ℕ) → AreApart (xs ++ ys) → IsNoneOf k (xs ++ ys) → AreApart (xs ++ k ∷ ys)
apart_between k [] ys h none = (none, h)
apart_between k (x ∷ xs) ys h none =
    (none_of_append x xs (k ∷ ys) (none_of_left x xs ys h.0) ((λ is. none.0 (sym is)), none_of_right x xs ys h.0), apart_between k xs ys h.1 none.1)

-- it goes to the end, or there from the middle
pub apart_to_end : (k : ℕ) (xs ys : List ℕ) → AreApart (xs ++ k ∷ ys) → AreApart (xs ++ (ys ++ k ∷ []))
apart_to_end k xs ys h =
    let m = apart_middle k xs ys h in
    subst AreApart (append_assoc xs ys (k ∷ [])) (apart_last k (xs ++ ys) (apart_without k xs ys h) (none_of_append k xs ys m.0 m.1))

module _ (first : ℕ) where
  pub below_append : (n : ℕ) (xs ys : List ℕ) → AreBelow first n xs → AreBelow first n ys → AreBelow first n (xs ++ ys)
  below_append n [] ys f g = g
  below_append n (x ∷ xs) ys f g = (f.0, below_append n xs ys f.1 g)

  pub below_left : (n : ℕ) (xs ys : List ℕ) → AreBelow first n (xs ++ ys) → AreBelow first n xs
  below_left n [] ys h = tt
  below_left n (x ∷ xs) ys h = (h.0, below_left n xs ys h.1)

  pub below_right : (n : ℕ) (xs ys : List ℕ) → AreBelow first n (xs ++ ys) → AreBelow first n ys
  below_right n [] ys h = h
  below_right n (x ∷ xs) ys h = below_right n xs ys h.1

  pub below_to_end : (n k : ℕ) (xs ys : List ℕ) → AreBelow first n (xs ++ k ∷ ys) → AreBelow first n (xs ++ (ys ++ k ∷ []))
  below_to_end n k xs ys h =
      let r = below_right n xs (k ∷ ys) h in below_append n xs (ys ++ k ∷ []) (below_left n xs (k ∷ ys) h) (below_append n ys (k ∷ []) r.1 (r.0, tt))

  pub below_between : (n k : ℕ) (xs ys : List ℕ) → AreBelow first n (xs ++ ys) → (first ≤ k) × (suc k ≤ n) → AreBelow first n (xs ++ k ∷ ys)
  below_between n k [] ys h b = (b, h)
  below_between n k (x ∷ xs) ys h b = (h.0, below_between n k xs ys h.1 b)

  pub below_more : (n m : ℕ) (xs : List ℕ) → n ≤ m → AreBelow first n xs → AreBelow first m xs
  below_more n m [] le h = tt
  below_more n m (x ∷ xs) le h = ((h.0.0, (let f = h.0.1 in omega (arith, f, le))), below_more n m xs le h.1)

  -- the next one is none of them
  pub next_is_none : (n : ℕ) (xs : List ℕ) → AreBelow first n xs → IsNoneOf n xs
  next_is_none n [] h = tt
  next_is_none n (x ∷ xs) h = ((λ is. let f = h.0.1 in absurd (omega (arith, f, is))), next_is_none n xs h.1)
