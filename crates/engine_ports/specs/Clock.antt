-- What a clock tells. own: the daemon's view of time, in milliseconds since 1970.
use Rattle.std.specs.Prelude.{ℕ, ◌≡◌, ◌≤◌, List, ◌++◌, max, Option, Some, None}
use Rattle.engine_ports.specs.Rose.{Rose}
use Rattle.engine_ports.specs.declared.ports.Pause.{Pause}
use Rattle.engine_ports.specs.declared.ports.Pause.TheVariants as pause

-- the moments still to come, where they are told, and how often a pause was stopped
pub record ClockView : Type 0 where
  pub moments : Option (List ℕ)
  pub stops : ℕ

-- a clock that tells no moments, before its first pause
abbrev pub untold_clock : ClockView
untold_clock = record { moments = None; stops = 0 }

-- a clock that tells its moments handed exactly these; it tells none once they have all come
abbrev pub Handed : Option (List ℕ) → List ℕ → Option (List ℕ) → Type 0
Handed (Some before) ms (Some now) = before ≡ ms ++ now
Handed (Some before) ms None = (more : List ℕ) × (ms ≡ before ++ more)
Handed None ms None = Unit {0}
Handed None ms (Some now) = ⊥

-- the clock handed these moments, and its count did not fall
pub record ClockHanded (v : ClockView) (ms : List ℕ) (v' : ClockView) : Type 0 where
  pub handed : Handed v.moments ms v'.moments
  pub stops : v.stops ≤ v'.stops

-- the moments to come stand as they stood, and the count did not fall
pub record ClockStood (v v' : ClockView) : Type 0 where
  pub moments : v'.moments ≡ v.moments
  pub stops : v.stops ≤ v'.stops

-- what a pause says: it takes no moment away, and a stop is counted
abbrev pub PauseSays : Pause → ClockView → ClockView → Type 0
PauseSays pause.Go v v' = ClockStood v v'
PauseSays pause.Stop v v' = ClockStood v v' × Rose v.stops v'.stops

-- a second clock with the same count, which tells no moments
abbrev pub twin_of : ClockView → ClockView
twin_of v = record { moments = None; stops = v.stops }

-- the clock with the greater of the two counts
abbrev pub rejoined : ClockView → ClockView → ClockView
rejoined v other = record { moments = v.moments; stops = max v.stops other.stops }
