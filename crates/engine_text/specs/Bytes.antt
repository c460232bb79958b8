-- The bytes that lie at a place (own).
use Rattle.std.specs.Prelude.{ℕ, List}
use Rattle.engine_text.specs.declared.bytes.Place.{Place}
use Rattle.engine_text.specs.declared.bytes.Place.TheVariants.{Own, Lent}

-- Those of a vector, or those that the program holds.
abbrev pub bytes_at : Place → List ℕ
bytes_at (Own items) = items.items
bytes_at (Lent items) = items.now
