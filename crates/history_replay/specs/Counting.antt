-- Which counts of due steps serve an entry, walked from 0 on (own).
use Rattle.std.specs.Prelude.{◌≡◌, ℕ, suc, ◌<◌, ◌≤◌, List, Option, Some, None, Bool, true, false, ◌&&◌, is_some, nat_le, codes, decimal}
use Rattle.machine_model.specs.State.{State}
use Rattle.machine_model.specs.History.{AreLawful}
use Rattle.journal_lines.specs.Stored.{due_steps}
use Rattle.journal_lines.specs.Due.{IsDueCount, IsLeastDueCount, behind_dues}
use Rattle.engine_text.specs.declared.entry.Entry.{Entry}

-- Of the counts up to this one, the least that serves.
abbrev pub IsLeastUpTo : State → Entry → ℕ → Option ℕ → Type 0
IsLeastUpTo s e count None = (n : ℕ) → n ≤ count → IsDueCount s e n → ⊥
IsLeastUpTo s e count (Some least) = IsLeastDueCount s e least × (least ≤ count)

-- No due step that is made from here on brings the moment of the entry's call.
abbrev pub IsPast : State → Entry → Type 0
IsPast s e = (n : ℕ) → IsDueCount s e (suc n) → ⊥

-- So many due steps were made, and which of the counts so far serve is known: where the kept one has been passed, it doesn't.
pub record HasRun (before : State) (e : Entry) (now : State) (count : ℕ) (least : Option ℕ) : Type 0 where
  pub state : now ≡ behind_dues before count
  pub lawful : AreLawful before (due_steps count)
  pub lowest : IsLeastUpTo before e count least
  pub kept : e.dues < count → IsDueCount before e e.dues → ⊥
  pub counted : count ≤ now.step_count

-- The first of the counts that serve: the one that is known, or else this one, if it serves.
abbrev pub first_of : Option ℕ → Bool → ℕ → Option ℕ
first_of (Some least) serves count = Some least
first_of None true count = Some count
first_of None false count = None

-- The least count is known, and the kept one is reached.
abbrev pub is_settled : Option ℕ → ℕ → ℕ → Bool
is_settled least count kept = is_some least && nat_le kept count

-- In decimal digits, or `none`.
abbrev pub count_text : Option ℕ → List ℕ
count_text None = codes "none"
count_text (Some n) = decimal n
