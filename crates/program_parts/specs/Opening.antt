-- At which moment a line's daemon is opened (own).
use Rattle.std.specs.Prelude.{ℕ, ◌≡◌, ◌≤◌, min, [], ◌∷◌, Option, Some, None}
use Rattle.std.specs.Option.{ForSome}
use Rattle.engine_ports.specs.Clock.{ClockView, ClockHanded}
use Rattle.machine_model.specs.History.{greatest_moment}
use Rattle.engine_line.specs.declared.line.Stepping.{Stepping}

-- where a line sets a clock, START is a moment
abbrev pub StartsWithin : Option Stepping → Type 0
StartsWithin clock = ForSome clock (λ s. s.start ≤ greatest_moment)

-- the opening is one moment of the handed clock, at most the greatest one; or START, and that clock
-- isn't asked
abbrev pub OpensAt : Option Stepping → ℕ → ClockView → ClockView → Type 0
OpensAt None opening t t' = (m : ℕ) × (opening ≡ min m greatest_moment) × ClockHanded t (m ∷ []) t'
OpensAt (Some stepping) opening t t' = (opening ≡ stepping.start) × (t' ≡ t)
