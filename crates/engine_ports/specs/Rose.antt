-- Counts of faults, ends and stops. own: a count never falls, and stands still at the greatest u64.
use Rattle.std.specs.Prelude.{ℕ, ◌<◌, ◌≤◌, ◌+◌, ◌-◌, ◌^◌, ◌⊎◌, min}

-- the greatest count
abbrev pub greatest_count : ℕ
greatest_count = 2 ^ 64 - 1

-- the count rose, or stands at its last value
abbrev pub Rose : ℕ → ℕ → Type 0
Rose before now = (before < now) ⊎ (greatest_count ≤ now)

-- one more, or the greatest count
abbrev pub raised : ℕ → ℕ
raised n = min (n + 1) greatest_count
