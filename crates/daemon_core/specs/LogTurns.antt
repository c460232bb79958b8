-- What asking for a part of a log's stream tells (own).
use Rattle.std.specs.Prelude.{◌≡◌, ℕ, ◌<◌, ◌≤◌, true, List, ◌++◌, length}
pub use Rattle.reading_calls.specs.LogParts.{ends_by, is_whole_at, is_lost, is_gone, GoesOn, IsBehind}
use Rattle.engine_text.specs.declared.reply.LogSpec.{LogSpec}
use Rattle.machine_model.specs.History.{state_after}
use Rattle.machine_model.specs.LogStream.{is_kept, log_bytes, log_of, log_reach}
use Rattle.machine_model.specs.State.{State}
use Rattle.session_model.specs.Pass.{PassView}
use Rattle.daemon_core.specs.PartTurns.{PartTurn}
use Rattle.session_model.specs.declared.turned.Part.{Part}
use Rattle.session_model.specs.declared.turned.Part.TheVariants.{More, UpToDate, Whole, Gone, NoMemory}

-- what was told of a log in a state, and what was appended: its frames up to a later place, or nothing
abbrev pub LogSays : State → LogSpec → ℕ → Part → List ℕ → List ℕ → Type 0
LogSays s spec place (More next) old new =
    GoesOn s spec place × (is_kept s spec.owner ≡ true) × (place < next) × (next ≤ length (log_of s spec.owner))
    × (next ≤ log_reach s spec) × (new ≡ old ++ log_bytes s spec place next)
LogSays s spec place UpToDate old new = GoesOn s spec place × (length (log_of s spec.owner) ≤ place) × (new ≡ old)
LogSays s spec place Whole old new = (is_whole_at s spec place ≡ true) × (new ≡ old)
LogSays s spec place (Gone next first) old new = IsBehind s spec place next first × (new ≡ old)
LogSays s spec place NoMemory old new = new ≡ old

-- a part of a log's stream from a place on was asked for, and appended; no call was made
abbrev pub LogTurn : ℕ → ℕ → LogSpec → ℕ → Part → List ℕ → List ℕ → PassView → PassView → Type 0
LogTurn k handed spec place part old new = PartTurn k handed part (λ ch h. LogSays (state_after ch h) spec place part old new)
