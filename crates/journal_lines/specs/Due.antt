-- How many due steps stand before a call (own: a call stands where nothing is due at or before its moment).
use Rattle.std.specs.Prelude.{◌≡◌, ℕ, ◌<◌, List, IsTrue, codes, decimal, ◌⊎◌}
use Rattle.machine_model.specs.State.{State}
use Rattle.machine_model.specs.History.{state_from, AreLawful, IsTimely, has_steps}
use Rattle.journal_lines.specs.Stored.{due_steps}
use Rattle.engine_text.specs.declared.call.Call.{Call}
use Rattle.engine_text.specs.declared.entry.Entry.{Entry}

-- The moment is one for the call: a drop stands at the last step's moment, whatever is due.
abbrev pub IsMomentFor : State → ℕ → Call → Type 0
IsMomentFor s moment (Call.Drop ticket) = moment ≡ s.clock
IsMomentFor s moment (Call.Take ticket) = IsTimely s moment
IsMomentFor s moment c = IsTimely s moment × IsTrue (has_steps s)

-- The state behind an entry's due steps.
abbrev pub behind_dues : State → ℕ → State
behind_dues s n = state_from s (due_steps n)

-- Behind so many lawful due steps the moment is one for the entry's call.
abbrev pub IsDueCount : State → Entry → ℕ → Type 0
IsDueCount s e n = AreLawful s (due_steps n) × IsMomentFor (behind_dues s n) e.moment e.call

-- The least such count.
abbrev pub IsLeastDueCount : State → Entry → ℕ → Type 0
IsLeastDueCount s e n = IsDueCount s e n × ((fewer : ℕ) → fewer < n → IsDueCount s e fewer → ⊥)

-- There is none.
abbrev pub HasNoDueCount : State → Entry → Type 0
HasNoDueCount s e = (n : ℕ) → IsDueCount s e n → ⊥

-- The least count in decimal digits, or `none`.
abbrev pub TellsDueCount : State → Entry → List ℕ → Type 0
TellsDueCount s e text =
    ((n : ℕ) × IsLeastDueCount s e n × (text ≡ decimal n)) ⊎ (HasNoDueCount s e × (text ≡ codes "none"))
