-- Lists of texts (own).
use Rattle.std.specs.Prelude.{ℕ, List, [], ◌∷◌, IsUtf8, ⊤}

-- every text is UTF-8
abbrev pub AreUtf8 : List (List ℕ) → Type 0
AreUtf8 [] = ⊤
AreUtf8 (t ∷ ts) = IsUtf8 t × AreUtf8 ts
