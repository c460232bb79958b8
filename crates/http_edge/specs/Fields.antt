-- How often a field stands in a head (RFC 9110, section 5.3).
use Rattle.std.specs.Prelude.{◌≡◌, ◌≤◌, ℕ, List, [], ◌∷◌, length}
use Rattle.http_edge.specs.declared.fields.Occurrences.{Occurrences}
use Rattle.http_edge.specs.declared.fields.Occurrences.TheVariants.{None, One, Many}

-- these are the values of the fields of one name
abbrev pub Counts : Occurrences → List (List ℕ) → Type 0
Counts None values = values ≡ []
Counts (One value) values = values ≡ value.now ∷ []
Counts Many values = 2 ≤ length values
