-- That a daemon's ring and journal go with its history, and lines of events that are appended (own).
use Rattle.std.specs.Prelude.{◌≡◌, ℕ, ◌+◌, ◌<◌, ◌≤◌, List, ◌++◌, Option, length, take}
use Rattle.std.specs.List.{AllByRecursion}
use Rattle.engine_text.specs.declared.event.Event.{Event}
use Rattle.engine_text.specs.declared.filter.FilterRow.{FilterRow}
use Rattle.engine_text.specs.declared.step.Step.{Step}
use Rattle.engine_text.specs.declared.call.Call.{Call}
use Rattle.engine_text.specs.declared.call.Call.TheVariants.{Take, Drop}
use Rattle.event_ring.specs.Ring.{Kept, ring_of}
use Rattle.journal_lines.specs.KeptJournal.{ends_of}
use Rattle.journal_lines.specs.KeptJournal as journal
use Rattle.machine_model.specs.declared.limits.TheConstants.{GREATEST_MOMENT}
use Rattle.machine_model.specs.EventLines.{lines_of}
use Rattle.machine_model.specs.History.{Charter, after_step, events_of, state_after}
use Rattle.machine_model.specs.Step.{step_effect}
use Rattle.daemon_core.specs.Keeping.{history_of, told_entries}
use Rattle.daemon_core.specs.declared.stored.Stored.{Stored}

-- what a ring holds of a history: its last events
unfoldable pub last_events : Charter → List Step → Kept
last_events ch h = ring_of (events_of ch h)

-- the machine is in the state that the journal's steps lead to, the ring holds the last of their events, and each
-- entry has the reply to its call
pub record IsTold (ch : Charter) (d : Stored) : Type 0 where
  pub state : d.machine.memory.state ≡ state_after ch (history_of d.journal)
  pub ring : d.ring ≡ ring_of (events_of ch (history_of d.journal))
  pub entries : d.journal.entries ≡ told_entries ch (history_of d.journal)
  pub steps : length (history_of d.journal) ≡ d.machine.memory.state.step_count

-- so it is under some charter
abbrev pub IsToldBySome : Stored → Type 0
IsToldBySome d = (ch : Charter) × IsTold ch d

-- where it was so, it is so
abbrev pub KeepsTold : Stored → Stored → Type 0
KeepsTold d d' = (ch : Charter) → IsTold ch d → IsTold ch d'

-- the machine made a step, and its events came to the ring
pub record Plays (x : Step) (d d' : Stored) : Type 0 where
  pub state : d'.machine.memory.state ≡ after_step d.machine.memory.state x
  pub ring : (all : List Event) → d.ring ≡ ring_of all
      → d'.ring ≡ ring_of (all ++ (step_effect x d.machine.memory.state).events)

-- the same entries and due steps, and no less room
pub record IsLike (j j' : journal.KeptJournal) : Type 0 where
  pub entries : j'.entries ≡ j.entries
  pub since : j'.since ≡ j.since
  pub room : j.room ≤ j'.room

-- the end of each ticket that stands has a place behind the entries
abbrev pub HasEnds : Stored → Type 0
HasEnds d = length d.journal.entries + length d.machine.memory.state.tickets ≤ d.journal.room

-- the call has its place, and so has the end of the ticket that it may give; the end of a ticket has its own
abbrev pub HasPlaces : Stored → Call → Type 0
HasPlaces d (Take n) = Unit {0}
HasPlaces d (Drop n) = Unit {0}
HasPlaces d c =
    length d.journal.entries + ends_of d.journal.entries + (length d.machine.memory.state.tickets + 2) ≤ d.journal.room

-- no moment of these lies past the greatest
abbrev pub AreTimed : List Event → Type 0
AreTimed events = AllByRecursion (λ e. e.moment ≤ GREATEST_MOMENT) events

-- the lines of the told ones among the first n were appended, n being at least 1
abbrev pub PassesEvents : List FilterRow → Option ℕ → List Event → ℕ → List ℕ → List ℕ → Type 0
PassesEvents filters until events n old new =
    (0 < n) × (n ≤ length events) × (new ≡ old ++ lines_of filters until (take n events))
