-- Histories as lists of steps, each with the number of its connection or none (own).
use Rattle.std.specs.Prelude.{◌≡◌, ℕ, List, [], ◌∷◌, ◌++◌, Bool, true, false, ◌==◌, Option, Some, None, if◌then◌else◌}

-- the step has this number
abbrev pub is_by : ℕ → Option ℕ → Bool
is_by n None = false
is_by n (Some k) = k == n

-- the step has this number or none
abbrev pub may_be_by : ℕ → Option ℕ → Bool
may_be_by n None = true
may_be_by n (Some k) = k == n

module _ {S : Type 0} (author : S → Option ℕ) where
  -- the steps with this number, in order
  abbrev pub steps_by : ℕ → List S → List S
  steps_by n [] = []
  steps_by n (x ∷ xs) = if is_by n (author x) then x ∷ steps_by n xs else steps_by n xs

  -- each step has this number or none
  abbrev pub only_by : ℕ → List S → Bool
  only_by n [] = true
  only_by n (x ∷ xs) = if may_be_by n (author x) then only_by n xs else false

  -- no step has a number
  abbrev pub NoCalls : List S → Type 0
  NoCalls h = (n : ℕ) → steps_by n h ≡ []

  -- b goes on after a by steps of which none has the number
  pub record ByOthers (n : ℕ) (a b : List S) : Type 0 where
    pub more : List S
    pub is : b ≡ a ++ more
    pub none_own : steps_by n more ≡ []

  -- b goes on after a by steps with the number, and steps with none
  pub record ByOne (n : ℕ) (a b : List S) : Type 0 where
    pub more : List S
    pub is : b ≡ a ++ more
    pub own : only_by n more ≡ true
