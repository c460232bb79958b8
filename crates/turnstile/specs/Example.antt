-- A list of numbers, as the tests keep it (own: an example of a value that tells its history).
use Rattle.std.specs.Prelude.{◌≡◌, ℕ, List, [], ◌∷◌, ◌++◌, Bool, true, false}

-- the number was added, or nothing changed
abbrev pub Appended : ℕ → List ℕ → List ℕ → Bool → Type 0
Appended n h k true = k ≡ h ++ n ∷ []
Appended n h k false = k ≡ h
