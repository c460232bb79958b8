-- Where a text's first line ends (own: a line ends with its line end, and has no other).
use Rattle.std.specs.Prelude.{◌≡◌, ◌≢◌, ℕ, List, [], ◌∷◌, ◌++◌, All}

-- No byte is a line end.
abbrev pub HasNoLineEnd : List ℕ → Type 0
HasNoLineEnd bytes = All (λ b. b ≢ 10) bytes

-- A line end stands at the end alone.
abbrev pub IsFirstLine : List ℕ → Type 0
IsFirstLine bytes = (front : List ℕ) × HasNoLineEnd front × (bytes ≡ front ++ 10 ∷ [])
