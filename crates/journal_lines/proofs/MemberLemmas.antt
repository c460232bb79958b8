-- The members of an object, and their keys.
use Rattle.std.specs.Prelude.{ℕ, List, [], ◌∷◌}
use Rattle.serde_json.specs.Data.{Data, object, Members, no_members, member}

abbrev pub members : Data → Members
members (object ms) = ms
members _ = no_members

abbrev pub names : Members → List (List ℕ)
names no_members = []
names (member k d ms) = k ∷ names ms
