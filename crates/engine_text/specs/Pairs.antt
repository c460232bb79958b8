-- Lists of pairs of texts (own).
use Rattle.std.specs.Prelude.{List, [], ◌∷◌, IsUtf8, ⊤}
use Rattle.engine_text.specs.declared.pairs.Pair.{Pair}

-- every key and value is UTF-8
abbrev pub ArePairsUtf8 : List Pair → Type 0
ArePairsUtf8 [] = ⊤
ArePairsUtf8 (p ∷ ps) = IsUtf8 p.key × IsUtf8 p.value × ArePairsUtf8 ps
