-- Which volumes a prune removes (Docker Engine API v1.43, VolumePrune: without the filter `all` those without a name alone, which the profile
-- leaves out, so that there is none).
use Rattle.std.specs.Prelude.{ℕ, List, Bool, true, if◌then◌else◌, Option, Some, None, codes}
use Rattle.lab_front.specs.Queries.{value_of, filters_none}
use Rattle.lab_front.specs.declared.left.LeftOut.TheVariants as left
use Rattle.lab_front.specs.declared.table.Row.{Row}
use Rattle.lab_front.specs.declared.table.Row.TheVariants as to

-- no filters ask for more
abbrev pub is_plain_prune : Option (List ℕ) → Bool
is_plain_prune None = true
is_plain_prune (Some value) = filters_none value

-- none is removed; what filters ask for is left out
abbrev pub volumes_row : List ℕ → Row
volumes_row query =
    if is_plain_prune (value_of (codes "filters") query) then to.PrunedVolumes else to.LeftOut left.Prune
