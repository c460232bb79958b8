-- What a source of bytes tells. own: the daemon's view of whatever bytes come from.
use Rattle.std.specs.Prelude.{ℕ, ◌≡◌, ◌<◌, ◌≤◌, List, [], ◌++◌, length, take, Option, Some, None}
use Rattle.engine_ports.specs.Rose.{Rose}
use Rattle.engine_ports.specs.declared.ports.Got.{Got}
use Rattle.engine_ports.specs.declared.ports.Got.TheVariants as got

-- the bytes still to come, where they are told, and how often a read failed or met the end
pub record SourceView : Type 0 where
  pub left : Option (List ℕ)
  pub faults : ℕ
  pub ends : ℕ

-- a source that tells no bytes, before its first read
abbrev pub untold_source : SourceView
untold_source = record { left = None; faults = 0; ends = 0 }

-- a source that tells its bytes gave exactly these, and tells the rest
abbrev pub Gave : Option (List ℕ) → List ℕ → Option (List ℕ) → Type 0
Gave (Some before) bytes (Some now) = before ≡ bytes ++ now
Gave None bytes None = Unit {0}
Gave (Some before) bytes None = ⊥
Gave None bytes (Some now) = ⊥

-- the source gave these bytes, and no count fell
pub record SourceGave (v : SourceView) (bytes : List ℕ) (v' : SourceView) : Type 0 where
  pub gave : Gave v.left bytes v'.left
  pub faults : v.faults ≤ v'.faults
  pub ends : v.ends ≤ v'.ends

-- no byte is left, where the bytes are told
abbrev pub IsSpent : Option (List ℕ) → Type 0
IsSpent None = Unit {0}
IsSpent (Some left) = left ≡ []

-- the end of a source: its count of ends rose, and nothing is left
pub record SourceEnded (v v' : SourceView) : Type 0 where
  pub rose : Rose v.ends v'.ends
  pub spent : IsSpent v'.left

-- what a read says: bytes stand at the front of the place, nothing is left, or a fault
abbrev pub ReadSays : Got → List ℕ → SourceView → SourceView → Type 0
ReadSays (got.Bytes n) into v v' = (0 < n) × (n ≤ length into) × SourceGave v (take n into) v'
ReadSays got.End into v v' = SourceGave v [] v' × SourceEnded v v'
ReadSays got.Failed into v v' = SourceGave v [] v' × Rose v.faults v'.faults
