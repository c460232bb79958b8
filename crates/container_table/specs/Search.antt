-- Where a search by halving ends (own).
use Rattle.std.specs.Prelude.{ℕ, zero, suc, List, [], ◌∷◌}
use Rattle.std.specs.List.{AllByRecursion}

-- It holds of the item at i, which is there.
abbrev pub HoldsOf : {A : Type 0} → (A → Type 0) → List A → ℕ → Type 0
HoldsOf P [] i = ⊥
HoldsOf P (x ∷ xs) zero = P x
HoldsOf P (x ∷ xs) (suc i) = HoldsOf P xs i

-- P holds of the first i items, which are there, and Q of the others.
abbrev pub Parts : {A : Type 0} → (A → Type 0) → (A → Type 0) → List A → ℕ → Type 0
Parts P Q xs zero = AllByRecursion Q xs
Parts P Q [] (suc i) = ⊥
Parts P Q (x ∷ xs) (suc i) = P x × Parts P Q xs i
