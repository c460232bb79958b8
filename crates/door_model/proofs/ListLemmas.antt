-- Lists that are told or not, and numbered ones.
use Rattle.std.proofs.Common.{◌≡◌, ◌+◌, ℕ, suc, List, [], ◌∷◌, ◌++◌, length, map, Option, Some, None, refl, sym, ◌∙◌, ap, subst, arith, append-nil, append_assoc}
use Rattle.engine_ports.specs.Door.{Came, ToldLast}
use Rattle.door_model.specs.Connections.{ComeIn, GoOut, numbered}

module _ {A : Type 0} where
  pub come_none : (l : Option (List A)) → ComeIn l [] l
  come_none None = tt
  come_none (Some xs) = refl

  pub come_more : (l m n : Option (List A)) (xs : List A) (x : A) → ComeIn l xs m → Came m x n → ComeIn l (xs ++ x ∷ []) n
  come_more (Some l) (Some m) (Some n) xs x f g = f ∙ ap (λ v. xs ++ v) g ∙ sym (append_assoc xs (x ∷ []) n)
  come_more None None None xs x f g = tt
  come_more (Some l) None n xs x f g = absurd f
  come_more None (Some m) n xs x f g = absurd f
  come_more (Some l) (Some m) None xs x f g = absurd g
  come_more None None (Some n) xs x f g = absurd g

  pub out_none : (l : Option (List A)) → GoOut l [] l
  out_none None = tt
  out_none (Some xs) = sym (append-nil xs)

  pub out_more : (l m n : Option (List A)) (xs : List A) (x : A) → GoOut l xs m → ToldLast m x n → GoOut l (xs ++ x ∷ []) n
  out_more (Some l) (Some m) (Some n) xs x f g = g ∙ ap (λ v. v ++ x ∷ []) f ∙ append_assoc l xs (x ∷ [])
  out_more None None None xs x f g = tt
  out_more (Some l) None n xs x f g = absurd f
  out_more None (Some m) n xs x f g = absurd f
  out_more (Some l) (Some m) None xs x f g = absurd g
  out_more None None (Some n) xs x f g = absurd g

  -- one more, behind so many
  pub numbered_more : (k : ℕ) (xs : List A) (x : A) → numbered k (xs ++ x ∷ []) ≡ numbered k xs ++ (k + length xs, x) ∷ []
  numbered_more k [] x = ap (λ (n : ℕ). (n, x) ∷ []) (omega arith)
  numbered_more k (y ∷ xs) x = ap (λ l. (k, y) ∷ l) (numbered_more (suc k) xs x ∙ ap (λ (n : ℕ). numbered (suc k) xs ++ (n, x) ∷ []) (omega arith))

pub map_more : {A B : Type 0} (f : A → B) (xs : List A) (x : A) → map f (xs ++ x ∷ []) ≡ map f xs ++ f x ∷ []
map_more f [] x = refl
map_more f (a ∷ xs) x = ap (λ l. f a ∷ l) (map_more f xs x)
