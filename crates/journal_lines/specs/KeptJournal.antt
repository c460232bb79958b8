-- A journal that is kept: its entries, and places for them (own: each entry has a place, and so has the end of each ticket).
use Rattle.std.specs.Prelude.{ℕ, ◌+◌, ◌-◌, Bool, true, false, List, [], ◌∷◌, length}
use Rattle.journal_lines.specs.Stored.{stored_history}
use Rattle.engine_text.specs.declared.call.Call.{Call}
use Rattle.engine_text.specs.declared.entry.Entry.{Entry}
use Rattle.engine_text.specs.declared.reply.Reply.{Reply}

-- Its entries, the due steps since the last of them, how many entries it may have, and for how many it has memory.
pub record KeptJournal : Type 0 where
  pub entries : List Entry
  pub since : ℕ
  pub greatest : ℕ
  pub room : ℕ

-- How many steps it stores.
abbrev pub steps_in : KeptJournal → ℕ
steps_in j = length (stored_history j.entries j.since)

-- A reply that gives a ticket wants a place for the ticket's end.
abbrev pub tickets_begun : Reply → ℕ
tickets_begun (Reply.Begun ticket) = 1
tickets_begun _ = 0

-- Whether a call ends a ticket.
abbrev pub is_end : Call → Bool
is_end (Call.Take ticket) = true
is_end (Call.Drop ticket) = true
is_end _ = false

-- How many tickets a call ends.
abbrev pub tickets_ended : Call → ℕ
tickets_ended (Call.Take ticket) = 1
tickets_ended (Call.Drop ticket) = 1
tickets_ended _ = 0

-- The places of ends behind an entry.
abbrev pub ends_behind : ℕ → Entry → ℕ
ends_behind ends e = ends + tickets_begun e.reply - tickets_ended e.call

-- The places of ends behind these entries, where so many stood before.
abbrev pub ends_from : ℕ → List Entry → ℕ
ends_from ends [] = ends
ends_from ends (e ∷ es) = ends_from (ends_behind ends e) es

-- The places that are kept for the ends of the tickets that the entries began.
abbrev pub ends_of : List Entry → ℕ
ends_of = ends_from 0
