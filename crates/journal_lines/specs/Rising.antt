-- Whether the first two of some texts rise (own: byte order).
use Rattle.std.specs.Prelude.{ℕ, List, [], ◌∷◌, Bool, true}
use Rattle.std.specs.Ordering.{nat_cmp, is_lt}
use Rattle.std.specs.Cmp.Lexicographic.{slice_cmp}

-- The first is below the second, where there are two.
abbrev pub rises_first : List (List ℕ) → Bool
rises_first [] = true
rises_first (t ∷ []) = true
rises_first (t ∷ u ∷ ts) = is_lt (slice_cmp nat_cmp t u)
