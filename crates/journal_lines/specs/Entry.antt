-- What is right and what is wrong of an entry (own: its call is made again, and its reply compared as a text).
use Rattle.std.specs.Prelude.{◌≡◌, ◌≢◌, ℕ, List, Bool, false, not, IsTrue, IsFalse, codes, decimal}
use Rattle.serde_json.specs.Written.{compact_text}
use Rattle.machine_model.specs.State.{State}
use Rattle.machine_model.specs.History.{state_from, has_ticket, reply_of}
use Rattle.machine_model.specs.Ready.{is_ready}
use Rattle.journal_lines.specs.JournalLines.{reply_value}
use Rattle.journal_lines.specs.Due.{behind_dues, IsDueCount, TellsDueCount}
use Rattle.journal_lines.specs.Stored.{entry_steps}
use Rattle.engine_text.specs.declared.call.Call.{Call}
use Rattle.engine_text.specs.declared.entry.Entry.{Entry}

-- Whether the ticket that a take or a drop names isn't the connection's.
abbrev pub lacks_ticket : State → ℕ → Call → Bool
lacks_ticket s conn (Call.Take ticket) = not (has_ticket s conn ticket)
lacks_ticket s conn (Call.Drop ticket) = not (has_ticket s conn ticket)
lacks_ticket s conn c = false

-- The text of the reply that the entry keeps.
abbrev pub kept_reply : Entry → List ℕ
kept_reply e = compact_text (reply_value e.call e.reply)

-- The text of the machine's reply, behind the entry's due steps.
abbrev pub found_reply : State → Entry → List ℕ
found_reply s e = compact_text (reply_value e.call (reply_of (behind_dues s e.dues) e.conn e.moment e.call))

-- Whether the call can be answered behind them.
abbrev pub can_answer : State → Entry → Bool
can_answer s e = is_ready (behind_dues s e.dues) e.call

-- What is wrong with an entry, tried in this order: what it keeps, and what is found.
pub data IsWrong (s : State) (e : Entry) : List ℕ → List ℕ → Type 0 where
  NoTicket : IsTrue (lacks_ticket s e.conn e.call) → IsWrong s e (kept_reply e) (codes "no ticket")
  OtherDues : (found : List ℕ) → IsFalse (lacks_ticket s e.conn e.call) → (IsDueCount s e e.dues → ⊥)
      → TellsDueCount s e found → IsWrong s e (decimal e.dues) found
  NotReady : IsFalse (lacks_ticket s e.conn e.call) → IsDueCount s e e.dues → IsFalse (can_answer s e)
      → IsWrong s e (kept_reply e) (codes "not ready")
  OtherReply : IsFalse (lacks_ticket s e.conn e.call) → IsDueCount s e e.dues → IsTrue (can_answer s e)
      → found_reply s e ≢ kept_reply e → IsWrong s e (kept_reply e) (found_reply s e)

-- Nothing is.
pub record IsRight (s : State) (e : Entry) : Type 0 where
  pub ticket : IsFalse (lacks_ticket s e.conn e.call)
  pub dues : IsDueCount s e e.dues
  pub ready : IsTrue (can_answer s e)
  pub reply : found_reply s e ≡ kept_reply e

-- The state behind the entry's steps.
abbrev pub behind_entry : State → Entry → State
behind_entry s e = state_from s (entry_steps e)
