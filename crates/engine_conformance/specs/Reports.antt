-- What is told of vectors that were run (own: for tests).
use Rattle.std.specs.Prelude.{ℕ, ◌≡◌, List, [], ◌∷◌, length, map, filter, Bool, not, Option, Some, None}
use Rattle.std.specs.List.{range_with_len}
use Rattle.engine_conformance.specs.declared.report.Report.{Report}

-- the numbers of the vectors, rising
abbrev pub vectors : List ℕ
vectors = range_with_len 1 26

-- the first number, if there is one
abbrev pub first_of : List ℕ → Option ℕ
first_of [] = None
first_of (n ∷ ns) = Some n

-- the numbers of those that didn't come out as they should
abbrev pub failing : List (ℕ × Bool) → List ℕ
failing ran = map (λ vector. vector.0) (filter (λ vector. not vector.1) ran)

-- each of these came out as it should, or didn't, and that is what is told
pub record Reports (numbers : List ℕ) (r : Report) : Type 0 where
  pub ran : List (ℕ × Bool)
  pub are : map (λ vector. vector.0) ran ≡ numbers
  pub passed : r.passed ≡ length (filter (λ vector. vector.1) ran)
  pub failed : r.failed ≡ length (failing ran)
  pub first : r.first ≡ first_of (failing ran)
