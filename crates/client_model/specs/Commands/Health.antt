-- `health UNTIL REF` (Docker Engine API v1.43, ContainerInspect, definitions HealthConfig and Health, and SystemEvents; own: the client
-- computes the health, of the check and the events of a container).
use Rattle.std.specs.Prelude.{ℕ, zero, suc, ◌/◌, ◌*◌, ◌==◌, ◌&&◌, nat_le, List, [], ◌∷◌, ◌++◌, length, map, codes, decimal, Bool, true, Option, Some, None, option_map, option_and_then, unwrap_or, if◌then◌else◌}
use Rattle.std.specs.Char.{is_digit}
use Rattle.std.specs.List.{list_all, fold}
use Rattle.std.specs.Option.{option_map_or}
use Rattle.serde_json.specs.Data.{Data, object, no_members, member}
use Rattle.serde_json.specs.Find.{get as get_member, as_array, as_number, as_u64}
use Rattle.serde_json.specs.Written.{compact_text}
use Rattle.json_laws.specs.Text.{data_of}
use Rattle.json_laws.specs.Pairs.{words_data, words_of}
use Rattle.http_edge.specs.Message.{Request}
use Rattle.response_reader.specs.Heads.{first_in}
use Rattle.engine_text.specs.Texts.{same_bytes}
use Rattle.engine_text.specs.declared.event.Event.{Event}
use Rattle.engine_text.specs.declared.health.HealthSpec.{HealthSpec}
use Rattle.engine_text.specs.declared.pairs.Pair.{Pair}
use Rattle.api_json.specs.Event.{if_there, text_at}
use Rattle.api_json.specs.Values.{text, natural}
use Rattle.api_routes.specs.Keys.{read_time}
use Rattle.health_watch.specs.Runs.{is_container}
use Rattle.health_watch.specs.Health.{Standing, health_of}
use Rattle.health_watch.specs.declared.health.Change.{Change}
use Rattle.health_watch.specs.declared.health.Health.{Health}
use Rattle.health_watch.specs.declared.health.Health.TheVariants as health
use Rattle.client_model.specs.Words.{value_of}
use Rattle.client_model.specs.Requests.{get, key}
use Rattle.client_model.specs.Plans.{Plan, asks, asks_for, kept, reads, prints_all, done, fails}
use Rattle.client_model.specs.Streams.{events_in}
use Rattle.client_model.specs.Commands.Inspect.{inspect_request}
use Rattle.client_model.specs.declared.checked.Checked.{Checked}
use Rattle.client_model.specs.declared.fault.Fault.TheVariants as F
use Rattle.client_model.specs.declared.command.Command.{Command}
use Rattle.client_model.specs.declared.command.Command.TheVariants as command

-- UNTIL is a time, as the key `until` of a query has it
abbrev pub read_health : List (List ℕ) → Option Command
read_health (until ∷ target ∷ []) = option_map (λ moment. command.Health until target) (read_time until)
read_health words = None

-- ---- the check that an inspect shows

-- a whole number at a key
abbrev pub number_at : List ℕ → Data → Option ℕ
number_at name d = if_there (get_member name d) (λ n. option_and_then as_u64 (as_number n))

-- nanoseconds at a key, counted down to milliseconds
abbrev pub milliseconds_at : List ℕ → Data → Option ℕ
milliseconds_at name d = option_map (λ nanos. nanos / 1000000) (number_at name d)

-- there are at most 1,000 retries
abbrev pub if_retries : ℕ → Option ℕ
if_retries n = if nat_le n 1000 then Some n else None

-- the words behind `CMD`
abbrev pub behind_cmd : List (List ℕ) → Option (List (List ℕ))
behind_cmd [] = None
behind_cmd (word ∷ words) = if same_bytes word (codes "CMD") then Some words else None

-- `Test`: what is run
abbrev pub test_at : Data → Option (List (List ℕ))
test_at d = if_there (get_member (codes "Test") d) (λ test. if_there (as_array test) (λ items. if_there (words_of items) behind_cmd))

-- the check that a `Healthcheck` tells, none of its members absent
abbrev pub check_of : Data → Option HealthSpec
check_of d =
    if_there (milliseconds_at (codes "Interval") d) (λ interval.
    if_there (if_there (number_at (codes "Retries") d) if_retries) (λ retries.
    if_there (milliseconds_at (codes "StartPeriod") d) (λ start_period.
    if_there (test_at d) (λ words.
    if_there (milliseconds_at (codes "Timeout") d) (λ timeout.
    Some (record { words = words; interval = interval; timeout = timeout; retries = retries; start_period = start_period }))))))

-- a container's id has 64 hexadecimal digits
abbrev pub if_container_id : List ℕ → Option (List ℕ)
if_container_id id = if (length id == 64) && list_all (λ b. is_digit b 16) id then Some id else None

-- a container's id, and its check
abbrev pub checked_as : Data → Data → Option Checked
checked_as d check =
    if_there (if_there (text_at (codes "Id") d) if_container_id) (λ id.
    option_map (λ spec. record { id = id; spec = spec }) (check_of check))

-- the same where there is a `Healthcheck`
abbrev pub checked_by : Data → Option Data → Option (Option Checked)
checked_by d None = Some None
checked_by d (Some check) = option_map Some (checked_as d check)

-- the container that an inspect shows, with its check; none where it shows no check
abbrev pub checked_in : List ℕ → Option (Option Checked)
checked_in body =
    if_there (data_of body) (λ d.
    if_there (get_member (codes "Config") d) (λ config. checked_by d (get_member (codes "Healthcheck") config)))

-- ---- the events of a container

abbrev pub container_filter : List ℕ → Data
container_filter id = object (member (codes "container") (words_data (id ∷ [])) no_members)

-- GET /events?since=0&until=UNTIL&filters={"container":["ID"]}
abbrev pub container_events_request : List ℕ → List ℕ → Request
container_events_request until id =
    get (codes "events" ∷ [])
    (key (codes "since") (codes "0") ++ key (codes "until") until ++ key (codes "filters") (compact_text (container_filter id)))

-- no moment is below the one before it, nor above the end
abbrev pub do_rise : ℕ → ℕ → List Event → Bool
do_rise end from [] = true
do_rise end from (e ∷ es) = nat_le from e.moment && nat_le e.moment end && do_rise end e.moment es

abbrev pub if_rising : ℕ → List Event → Option (List Event)
if_rising end es = if do_rise end 0 es then Some es else None

-- ---- lines

abbrev pub status_word : Bool → List ℕ
status_word healthy = if healthy then codes "health_status: healthy" else codes "health_status: unhealthy"

-- the value of an attribute, empty where there is none
abbrev pub attribute : List ℕ → List Pair → List ℕ
attribute name pairs = unwrap_or (value_of name pairs) []

-- the attributes of the container's last event at or before a moment
abbrev pub attributes_behind : List ℕ → ℕ → List Pair → Event → List Pair
attributes_behind id moment found e =
    if is_container e.kind && same_bytes e.id id && nat_le e.moment moment then e.attributes else found

abbrev pub attributes_by : List ℕ → ℕ → List Event → List Pair
attributes_by id moment es = fold (attributes_behind id moment) [] es

-- the image and the name of these attributes
abbrev pub attributes_data : List Pair → Data
attributes_data attributes = object (
    member (codes "image") (text (attribute (codes "image") attributes)) (
    member (codes "name") (text (attribute (codes "name") attributes)) no_members))

abbrev pub actor_data : List ℕ → List Pair → Data
actor_data id attributes = object (
    member (codes "Attributes") (attributes_data attributes) (
    member (codes "ID") (text id) no_members))

-- a change, told as an event of the container
abbrev pub change_data : List ℕ → List Pair → Change → Data
change_data id attributes change = object (
    member (codes "Action") (text (status_word change.healthy)) (
    member (codes "Actor") (actor_data id attributes) (
    member (codes "Type") (text (codes "container")) (
    member (codes "scope") (text (codes "local")) (
    member (codes "time") (natural (change.moment / 1000)) (
    member (codes "timeNano") (natural (change.moment * 1000000)) no_members))))))

abbrev pub change_line : List ℕ → List Event → Change → List ℕ
change_line id es change = compact_text (change_data id (attributes_by id change.moment es) change)

abbrev pub health_word : Health → List ℕ
health_word health.None = codes "none"
health_word health.Starting = codes "starting"
health_word health.Healthy = codes "healthy"
health_word health.Unhealthy = codes "unhealthy"

-- `ID STATUS STREAK`
abbrev pub standing_line : List ℕ → Standing → List ℕ
standing_line id s = id ++ codes " " ++ health_word s.status ++ codes " " ++ decimal s.streak

-- a line of each change up to the end, and of the health then
abbrev pub health_lines : Checked → ℕ → List Event → List (List ℕ)
health_lines c end es =
    map (change_line c.id es) (health_of es c.id c.spec end).changes
    ++ standing_line c.id (health_of es c.id c.spec end) ∷ []

-- ---- the command

-- a check's interval is a millisecond at least, and its timeout an hour at most
abbrev pub is_timed : HealthSpec → Bool
is_timed spec = nat_le 1 spec.interval && nat_le spec.timeout 3600000

abbrev pub if_timed : Checked → Option Checked
if_timed c = if is_timed c.spec then Some c else None

-- the lines that a body of events up to UNTIL gives
abbrev pub lines_in : List ℕ → Checked → List ℕ → Option (List (List ℕ))
lines_in until c body =
    if_there (read_time until) (λ end.
    if_there (if_timed c) (λ timed.
    if_there (if_there (events_in body) (if_rising end)) (λ es.
    Some (health_lines timed end es))))

-- it prints them, by the number of the first event
abbrev pub told_health : List ℕ → Checked → Option ℕ → List ℕ → Bool → Plan
told_health until c None body whole = fails F.Answer
told_health until c (Some zero) body whole = reads (lines_in until c) (λ lines. prints_all lines done) body whole
told_health until c (Some (suc n)) body whole = fails F.EventsGone

-- it asks for the events of the container
abbrev pub asks_events : List ℕ → Checked → Plan
asks_events until c =
    asks_for (kept (container_events_request until c.id)) (λ h body whole. told_health until c (first_in h.form) body whole)

-- it asks for the check, and where there is one for the events; it prints the changes of health, and the health at UNTIL
abbrev pub health_plan : List ℕ → List ℕ → Plan
health_plan until target =
    asks (inspect_request target) checked_in (λ checked. option_map_or (asks_events until) checked (fails F.NoCheck))
