-- Connections that come to a door in order, and leave it. own: the numbers of connections of this project.
use Rattle.std.specs.Prelude.{ℕ, suc, ◌≡◌, ◌≢◌, ◌<◌, ◌≤◌, ◌+◌, ◌-◌, min, List, [], ◌∷◌, ◌++◌, Option, Some, None}
use Rattle.machine_model.specs.History.{input_of}

module _ {A : Type 0} where
  abbrev pub numbered : ℕ → List A → List (ℕ × A)
  numbered k [] = []
  numbered k (x ∷ xs) = (k, x) ∷ numbered (suc k) xs

  -- these came, in order, where they are told
  abbrev pub ComeIn : Option (List A) → List A → Option (List A) → Type 0
  ComeIn (Some before) xs (Some now) = before ≡ xs ++ now
  ComeIn None xs None = Unit {0}
  ComeIn (Some before) xs None = ⊥
  ComeIn None xs (Some now) = ⊥

  -- these are the last of the past, in order, where it is told
  abbrev pub GoOut : Option (List A) → List A → Option (List A) → Type 0
  GoOut (Some before) xs (Some now) = now ≡ before ++ xs
  GoOut None xs None = Unit {0}
  GoOut (Some before) xs None = ⊥
  GoOut None xs (Some now) = ⊥

-- so many connections are served at most that neither their numbers nor those of their standard input, 2,147,483,648 more, meet a
-- number that isn't a connection's, 4,294,967,294 and 4,294,967,295
abbrev pub most_connections : ℕ
most_connections = 2147483646

-- how many are taken in at most, from this number on
abbrev pub most_from : ℕ → Option ℕ → ℕ
most_from first None = most_connections - first
most_from first (Some limit) = min limit (most_connections - first)

-- it is the number of none of so many connections from the first on, nor of the standard input of one
abbrev pub IsNobodys : ℕ → ℕ → ℕ → Type 0
IsNobodys first count n = (k : ℕ) → first ≤ k → k < first + count → (n ≢ k) × (n ≢ input_of k)
