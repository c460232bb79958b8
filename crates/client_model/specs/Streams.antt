-- What a command writes of a stream, as it comes (Docker Engine API v1.43, ContainerAttach, "Stream format"; SystemEvents).
use Rattle.std.specs.Prelude.{ℕ, ◌==◌, ◌&&◌, List, [], ◌∷◌, ◌++◌, Bool, true, false, Option, Some, None, option_map, codes, nat_le, Ok, Err, if◌then◌else◌}
use Rattle.std.specs.List.{slice_split, list_all}
use Rattle.std.specs.Str.{is_utf8}
use Rattle.http_edge.specs.Message.{Request}
use Rattle.json_laws.specs.Text.{data_of}
use Rattle.engine_text.specs.Texts.{same_bytes}
use Rattle.engine_text.specs.declared.event.Event.{Event}
use Rattle.engine_text.specs.declared.script.Stream.TheVariants.{Stdout, Stderr}
use Rattle.stream_frame.specs.Frames.{Part, payload_of}
use Rattle.stream_frame.specs.Demuxing.{Rest, Header, Faulted, Held, Item}
use Rattle.stream_frame.specs.Steps.{items_of, held_after}
use Rattle.api_json.specs.Event.{event_of, event_line_text, if_there}
use Rattle.api_json.specs.EventRules.{attributes_fit}
use Rattle.machine_model.specs.History.{greatest_moment}
use Rattle.client_model.specs.Plans.{Plan, Written, nothing, to_out, writes, is_too_long, fails, asks_for}
use Rattle.client_model.specs.declared.fault.Fault.TheVariants as F
use Rattle.client_model.specs.declared.showing.Showing.{Showing}
use Rattle.client_model.specs.declared.showing.Showing.TheVariants.{Kept, Copied, Demuxed}

-- ---- frames

-- the start of a stream of frames
abbrev pub unread : Held
unread = record { rest = Header []; at = 0 }

-- the payloads that items are
abbrev pub parts_of : List Item → List Part
parts_of [] = []
parts_of (Ok part ∷ items) = part ∷ parts_of items
parts_of (Err fault ∷ items) = parts_of items

-- stream 1 goes to standard output, 2 to standard error
abbrev pub payloads_of : List ℕ → Written
payloads_of body =
    let parts = parts_of (items_of unread body) in
    record { out = payload_of Stdout parts; err = payload_of Stderr parts }

-- nothing of a frame is behind the last whole one
abbrev pub is_border : Rest → Bool
is_border (Header []) = true
is_border rest = false

abbrev pub ends_frames : List ℕ → Bool
ends_frames body = is_border (held_after unread body).rest

-- a byte came that no stream of frames has there
abbrev pub is_wrong : Rest → Bool
is_wrong (Faulted fault) = true
is_wrong rest = false

-- ---- bodies, by what is done with them as they come

-- what is shown of a body: nothing of one that is kept, all of one that is copied, and the payloads of frames
abbrev pub shows : Showing → List ℕ → Written
shows Kept body = nothing
shows Copied body = to_out body
shows Demuxed body = payloads_of body

-- where a body may end: frames behind a whole one, and any other anywhere
abbrev pub may_end : Showing → List ℕ → Bool
may_end Kept body = true
may_end Copied body = true
may_end Demuxed body = ends_frames body

-- so much of a body shows that it can't be taken: it is longer than what is kept, or a byte of it is wrong in its frames
abbrev pub is_unfit : Showing → List ℕ → Bool
is_unfit Kept body = is_too_long body
is_unfit Copied body = false
is_unfit Demuxed body = is_wrong (held_after unread body).rest

-- it asks, and writes what the body shows as far as it came; standard input may follow the request; it goes on behind
-- a body that came whole and ends where it may
abbrev pub streams : Showing → Request → Bool → Plan → Plan
streams showing request input next =
    asks_for (record { request = request; input = input; showing = showing }) (λ h body whole.
    writes (shows showing body) (if whole && may_end showing body then next else fails F.Answer))

-- it asks, writes the payloads of the answer's frames, and goes on behind them
abbrev pub follows : Request → Bool → Plan → Plan
follows = streams Demuxed

-- it asks, and writes the answer's body
abbrev pub copies : Request → Plan → Plan
copies request next = streams Copied request false next

-- ---- events

-- the texts of an event are UTF-8
abbrev pub is_event_utf8 : Event → Bool
is_event_utf8 e = is_utf8 e.id && list_all (λ pair. is_utf8 pair.key && is_utf8 pair.value) e.attributes

-- an event that has this line
abbrev pub if_line : List ℕ → Event → Option Event
if_line line e =
    if nat_le e.moment greatest_moment && attributes_fit e.kind e.action e.attributes && is_event_utf8 e
    && same_bytes (event_line_text e) (line ++ codes "\n")
    then Some e else None

abbrev pub event_in : List ℕ → Option Event
event_in line = if_there (if_there (data_of line) event_of) (if_line line)

-- the events of the pieces between line ends; behind the last line end stands nothing
abbrev pub events_of_lines : List (List ℕ) → Option (List Event)
events_of_lines [] = None
events_of_lines ([] ∷ []) = Some []
events_of_lines (line ∷ lines) = if_there (event_in line) (λ e. option_map (λ es. e ∷ es) (events_of_lines lines))

-- the events of a text of lines
abbrev pub events_in : List ℕ → Option (List Event)
events_in body = events_of_lines (slice_split (λ b. b == 10) body)
