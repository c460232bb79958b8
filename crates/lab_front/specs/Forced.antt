-- Whether a removal is asked for with force (Docker Engine API v1.43, VolumeDelete: force; RFC 9112, section 3; own: the texts that mean no).
use Rattle.std.specs.Prelude.{ℕ, List, [], Bool, false, ◌==◌, ◌||◌, not, Option, Some, None, codes}
use Rattle.std.specs.List.{before_first, after_first}
use Rattle.lab_front.specs.Queries.{value_of, spells}

-- a value that means no
abbrev pub is_no : List ℕ → Bool
is_no value =
    spells value [] || spells value (codes "0") || spells value (codes "no") || spells value (codes "false")
    || spells value (codes "False") || spells value (codes "none")

-- a value that stands there, and doesn't
abbrev pub is_yes : Option (List ℕ) → Bool
is_yes None = false
is_yes (Some value) = not (is_no value)

-- the query of a request that begins with these bytes: its target stands between the first two blanks
abbrev pub query_in : List ℕ → List ℕ
query_in bytes = after_first (λ b. b == 63) (before_first (λ b. b == 32) (after_first (λ b. b == 32) bytes))

-- a request that begins with these bytes asks for force
abbrev pub is_forced : List ℕ → Bool
is_forced bytes = is_yes (value_of (codes "force") (query_in bytes))
