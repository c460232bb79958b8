-- What events and the journal obey.
use Rattle.std.proofs.Common.{ℕ, List, Option, refl}
use Rattle.machine_model.specs.State.{State}
use Rattle.machine_model.specs.Call.{outcome_of}
use Rattle.machine_model.proofs.ObeyLemmas.{Obeys, obeys_reply}
use Rattle.engine_text.specs.declared.call.Call.{Call}
use Rattle.engine_text.specs.declared.filter.FilterRow.{FilterRow}

pub events_obey : (since until : Option ℕ) (filters : List FilterRow) (connection : ℕ) (s : State) → Obeys (Call.Events since until filters) s (outcome_of (Call.Events since until filters) connection s)
events_obey since until filters connection s = obeys_reply (Call.Events since until filters) s _ refl

pub journal_obeys : (connection : ℕ) (s : State) → Obeys Call.JournalRead s (outcome_of Call.JournalRead connection s)
journal_obeys connection s = obeys_reply Call.JournalRead s _ refl
