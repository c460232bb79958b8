-- The lines of events (Docker Engine API v1.43, SystemEvents, definition EventMessage; own: the bound of moments).
use Rattle.std.specs.Prelude.{◌≡◌, ◌≢◌, ℕ, ◌/◌, ◌*◌, ◌≤◌, List, codes, Option, Some, true, option_map, option_and_then, IsUtf8, ⊤}
use Rattle.serde_json.specs.Data.{Data, object, no_members, member, Members}
use Rattle.serde_json.specs.Find.{get, as_str, as_object, as_number, as_u64}
use Rattle.json_laws.specs.Sound.{line_text}
use Rattle.engine_text.specs.Pairs.{ArePairsUtf8}
use Rattle.engine_text.specs.declared.event.Event.{Event}
use Rattle.engine_text.specs.declared.pairs.Pair.{Pair}
pub use Rattle.api_json.specs.EventRules.{kind_word, action_word}
use Rattle.api_json.specs.EventRules.{kind_of, action_of, attributes_fit}
use Rattle.api_json.specs.Lists.{pairs_of_members}
use Rattle.api_json.specs.Values.{text, natural, pairs_object}
use Rattle.api_json.specs.declared.fault.Refused.{Refused}
use Rattle.api_json.specs.declared.fault.Refused.TheVariants.{BadBody, NoMemory}
use Rattle.api_json.specs.declared.fault.BodyFault.TheVariants.{BadEventLine}

-- `Actor`: the id of what the event is of, and the event's attributes
abbrev pub actor_members : Event → Members
actor_members e =
    member (codes "Attributes") (pairs_object e.attributes) (
    member (codes "ID") (text e.id) no_members)

-- the moment in seconds, and in nanoseconds
abbrev pub event_members : Event → Members
event_members e =
    member (codes "Action") (text (action_word e.action)) (
    member (codes "Actor") (object (actor_members e)) (
    member (codes "Type") (text (kind_word e.kind)) (
    member (codes "scope") (text (codes "local")) (
    member (codes "time") (natural (e.moment / 1000)) (
    member (codes "timeNano") (natural (e.moment * 1000000)) no_members)))))

-- the object that a line of SystemEvents is
abbrev pub event_data : Event → Data
event_data e = object (event_members e)

-- the compact text and a line end
abbrev pub event_line_text : Event → List ℕ
event_line_text e = line_text (event_data e)

-- an event that has a line: a moment in range, the attributes of its kind and action, and texts that are UTF-8
abbrev pub IsLine : Event → Type 0
IsLine e =
    (e.moment ≤ 9_000_000_000_000) × (attributes_fit e.kind e.action e.attributes ≡ true)
    × IsUtf8 e.id × ArePairsUtf8 e.attributes

-- it is told that the line is no event's, and no event has it; or there was no memory
abbrev pub IsLineRefusal : List ℕ → Refused → Type 0
IsLineRefusal line (BadBody fault) = (fault ≡ BadEventLine) × ((e : Event) → IsLine e → event_line_text e ≢ line)
IsLineRefusal line NoMemory = ⊤

-- what comes of a part, where it is there
abbrev pub if_there : {A B : Type 0} → Option A → (A → Option B) → Option B
if_there part next = option_and_then next part

-- the text at a key
abbrev pub text_at : List ℕ → Data → Option (List ℕ)
text_at key d = option_and_then as_str (get key d)

-- the attributes that an actor tells
abbrev pub attributes_at : Data → Option (List Pair)
attributes_at actor = option_and_then pairs_of_members (option_and_then as_object (get (codes "Attributes") actor))

-- the moment of an event, told in nanoseconds
abbrev pub moment_at : Data → Option ℕ
moment_at d = option_map (λ nanos. nanos / 1_000_000) (option_and_then as_u64 (option_and_then as_number (get (codes "timeNano") d)))

-- the event that data tells: its action, its actor's attributes and id, its kind and its moment, none of them absent
abbrev pub event_of : Data → Option Event
event_of d =
    if_there (option_and_then action_of (text_at (codes "Action") d)) (λ action.
    if_there (get (codes "Actor") d) (λ actor.
    if_there (attributes_at actor) (λ attributes.
    if_there (text_at (codes "ID") actor) (λ id.
    if_there (option_and_then kind_of (text_at (codes "Type") d)) (λ kind.
    if_there (moment_at d) (λ moment.
    Some (record { kind = kind; action = action; id = id; attributes = attributes; moment = moment })))))))
