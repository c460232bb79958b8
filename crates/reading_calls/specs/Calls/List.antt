-- own: when a list has as many items as its limit lets in.
use Rattle.std.specs.Prelude.{ℕ, Bool, false, nat_le, Option, Some, None}

-- Without a limit never.
abbrev pub is_reached : Option ℕ → ℕ → Bool
is_reached None count = false
is_reached (Some limit) count = nat_le limit count
