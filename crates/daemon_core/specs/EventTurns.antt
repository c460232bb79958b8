-- What asking for a part of a stream of events tells (own; Docker Engine API v1.43, SystemEvents).
use Rattle.std.specs.Prelude.{◌≡◌, ℕ, ◌<◌, ◌≤◌, ◌&&◌, Bool, true, false, List, ◌++◌, Option, drop, length, nat_le, nat_lt}
use Rattle.std.specs.Option.{option_map_or}
use Rattle.std.specs.List.{list_all}
use Rattle.engine_text.specs.declared.event.Event.{Event}
use Rattle.engine_text.specs.declared.filter.FilterRow.{FilterRow}
use Rattle.engine_text.specs.declared.step.Step.{Step}
use Rattle.machine_model.specs.Calls.Events.{first_kept}
use Rattle.machine_model.specs.EventLines.{lines_between}
use Rattle.machine_model.specs.History.{Charter, events_of, state_after}
use Rattle.session_model.specs.Pass.{PassView}
use Rattle.session_model.specs.declared.turned.Part.{Part}
use Rattle.session_model.specs.declared.turned.Part.TheVariants.{More, UpToDate, Whole, Gone, NoMemory}
use Rattle.daemon_core.specs.PartTurns.{PartTurn}

-- whether the handed moment is at or after the end of a stream
abbrev pub comes_to : Option ℕ → ℕ → Bool
comes_to until handed = option_map_or (λ u. nat_le u handed) until false

-- whether an event lies after the end
abbrev pub is_past : Option ℕ → Event → Bool
is_past until e = option_map_or (λ u. nat_lt u e.moment) until false

-- whether a stream that has come to these events is whole: its end has come, and they all lie after it
abbrev pub is_over : Option ℕ → ℕ → List Event → Bool
is_over until handed events = comes_to until handed && list_all (is_past until) events

-- the event of that number, or the next one to come, is kept; and whether the stream is whole there
abbrev pub StandsAt : Charter → List Step → ℕ → Option ℕ → ℕ → Bool → Type 0
StandsAt ch h handed until number whole =
    (first_kept (state_after ch h) ≤ number) × (is_over until handed (drop number (events_of ch h)) ≡ whole)

-- what was told of a history's events, and what was appended: the lines of those up to a later one, or nothing
abbrev pub EventsSay : Charter → List Step → ℕ → List FilterRow → Option ℕ → ℕ → Part → List ℕ → List ℕ → Type 0
EventsSay ch h handed filters until number (More next) old new =
    StandsAt ch h handed until number false × (number < next) × (next ≤ length (events_of ch h))
    × (new ≡ old ++ lines_between ch h filters until number next)
EventsSay ch h handed filters until number UpToDate old new =
    StandsAt ch h handed until number false × (number ≡ length (events_of ch h)) × (new ≡ old)
EventsSay ch h handed filters until number Whole old new = StandsAt ch h handed until number true × (new ≡ old)
EventsSay ch h handed filters until number (Gone next first) old new =
    (next ≡ number) × (first ≡ first_kept (state_after ch h)) × (next < first) × (new ≡ old)
EventsSay ch h handed filters until number NoMemory old new = new ≡ old

-- a part of the stream of events from a number on was asked for, and appended; no call was made
abbrev pub EventTurn : ℕ → ℕ → List FilterRow → Option ℕ → ℕ → Part → List ℕ → List ℕ → PassView → PassView → Type 0
EventTurn k handed filters until number part old new =
    PartTurn k handed part (λ ch h. EventsSay ch h handed filters until number part old new)

-- these are the kept events from that number on, and at least one
abbrev pub IsPartFrom : Charter → List Step → ℕ → List Event → Type 0
IsPartFrom ch h number events =
    (first_kept (state_after ch h) ≤ number) × (number < length (events_of ch h)) × (events ≡ drop number (events_of ch h))
