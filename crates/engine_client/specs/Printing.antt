-- What is printed at the end of a plan (own: each item ends with a line end).
use Rattle.std.specs.Prelude.{ℕ, List, ◌++◌, flat_map, codes}

-- lines, each with its end
abbrev pub lines_text : List (List ℕ) → List ℕ
lines_text lines = flat_map (λ line. line ++ codes "\n") lines
