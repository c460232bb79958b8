-- The first bytes of a text (own: an index compares by them before it looks at a text).
use Rattle.std.specs.Prelude.{ℕ, zero, suc, List, [], ◌∷◌}

-- The first n bytes, filled up with zeros.
abbrev pub front : ℕ → List ℕ → List ℕ
front zero bytes = []
front (suc n) [] = 0 ∷ front n []
front (suc n) (b ∷ bytes) = b ∷ front n bytes
