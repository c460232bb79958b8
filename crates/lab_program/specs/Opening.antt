-- How a line's daemon is opened: its charter, its moment, and the addresses of its doors (own).
use Rattle.std.specs.Prelude.{ℕ, ◌≡◌, ◌++◌, min, List, [], ◌∷◌, Option, Some, None, codes, decimal}
use Rattle.engine_ports.specs.Clock.{ClockView, ClockHanded}
use Rattle.machine_model.specs.History.{Charter, greatest_moment}
use Rattle.daemon_core.specs.Storing.{charter_of}
use Rattle.lab_line.specs.declared.line.Lab.{Lab}
use Rattle.lab_line.specs.declared.line.LabClock.{LabClock}
use Rattle.lab_line.specs.declared.line.LabClock.TheVariants.{System, Hand, Steps}

-- a daemon has the line's seed of ids, and a journal of the line's entries at most
abbrev pub charter_by : Lab → ℕ → Charter
charter_by lab opening = charter_of lab.seed opening lab.entries

-- the opening is one moment of the system's clock, or the start of the line's, and the system's isn't asked; at most
-- the greatest moment
abbrev pub OpensAt : LabClock → ℕ → ClockView → ClockView → Type 0
OpensAt System opening t t' = (m : ℕ) × (opening ≡ min m greatest_moment) × ClockHanded t (m ∷ []) t'
OpensAt (Hand start) opening t t' = (opening ≡ min start greatest_moment) × (t' ≡ t)
OpensAt (Steps stepping) opening t t' = (opening ≡ min stepping.start greatest_moment) × (t' ≡ t)

-- sessions share a time exactly where the clock isn't the system's
abbrev pub IsTimeOf : {T : Type 0} → LabClock → Option T → Type 0
IsTimeOf System None = Unit {0}
IsTimeOf System (Some time) = ⊥
IsTimeOf set None = ⊥
IsTimeOf set (Some time) = Unit {0}

-- the ADDR of a port of this machine alone
abbrev pub addr_of : ℕ → List ℕ
addr_of port = codes "127.0.0.1:" ++ decimal port
