-- What `health` comes to by answers that are written by hand, and a change beside an event (own).
use Rattle.std.proofs.Common.{◌≡◌, ℕ, List, [], ◌∷◌, ◌++◌, Bool, true, Option, Some, None, codes, refl}
use Rattle.std.specs.Prelude.{length}
use Rattle.std.specs.Str.{is_utf8, chars}
use Rattle.std.specs.Fmt.{digits}
use Rattle.std.specs.Float.Numeral.{scan_numeral}
use lib.Utf8.{encode}
use Rattle.json.specs.Print.{escape_byte}
use Rattle.form_urlencoded.specs.Form.{byte_serialize}
use Rattle.percent_encoding.specs.Percent.{percent_encode_byte}
use Rattle.json.specs.Lex.{lex, punctuate}
use Rattle.json.specs.Json.{items, members, value}
use Rattle.json.specs.Text.{content, short_escape, code_unit}
use Rattle.json.specs.Word.{word, after_number}
use Rattle.serde_json.specs.Data.{Data, object, no_members, member, Members}
use Rattle.serde_json.specs.Read.{number_of}
use Rattle.json_laws.specs.Text.{data_of}
use Rattle.json_laws.specs.Sound.{line_text}
use Rattle.engine_text.specs.declared.event.EventKind.TheVariants as kind
use Rattle.engine_text.specs.declared.event.Action.TheVariants as action
use Rattle.engine_text.specs.declared.pairs.Pair.{Pair}
use Rattle.api_json.specs.Event.{event_data}
use Rattle.api_json.specs.EventRules.{is_decimal_below}
use Rattle.http_edge.specs.declared.head.Form.TheVariants.{Json, ChunkedJson}
use Rattle.response_reader.specs.Answers.{Answer, Answered}
use Rattle.client_model.specs.Client.{Result, client_result}
use Rattle.client_model.specs.Commands.Health.{change_data}
use Rattle.client_model.proofs.LineFacts.{words_of, address}
use Rattle.client_model.proofs.RunFacts.{no_answer}

-- ---- a change beside an event

-- the members of an object, but for the first
abbrev behind_first : Data → Members
behind_first (object (member key d ms)) = ms
behind_first d = no_members

abbrev named : List ℕ → List ℕ → List Pair
named image name = record { key = codes "image"; value = image } ∷ record { key = codes "name"; value = name } ∷ []

-- but for its action, a change has the members of an event of that container and moment
as_an_event : (id image name : List ℕ) (moment : ℕ) (healthy : Bool)
    → behind_first (change_data id (named image name) (record { healthy = healthy; moment = moment }))
    ≡ behind_first (event_data (record { kind = kind.Container; action = action.Update; id = id; attributes = named image name; moment = moment }))
as_an_event id image name moment healthy = refl

-- ---- runs

abbrev id : List ℕ
id = codes "76b8e0ada0f13d90405d6ae55386bd28bdd219b8a08ded1a0000000000000000"

abbrev result_of : List Answer → Option Result
result_of answers = client_result (address ∷ words_of (codes "health 1700000000 web")) None answers

abbrev ended : List ℕ → List ℕ → ℕ → Option Result
ended out err status = Some (record { out = out; err = err; status = status })

-- its inspect, or its events, aren't of the API
abbrev no_inspect : List ℕ
no_inspect = no_answer (codes "GET /v1.43/containers/web/json") (codes "status 200")

abbrev no_events : List ℕ
no_events =
    no_answer (codes "GET /v1.43/events?since=0&until=1700000000&filters=%7B%22container%22%3A%5B%22" ++ id ++ codes "%22%5D%7D")
    (codes "status 200")

-- what an inspect shows, with these members in its `Config`
abbrev shown : List ℕ → Answer
shown config =
    let body : List ℕ = codes "{\"Config\":{" ++ config ++ codes "},\"Id\":\"" ++ id ++ codes "\"}" in
    Answered (record { status = 200; form = Json (length body); close = true }) body true

abbrev check : List ℕ
check = codes "\"Healthcheck\":{\"Interval\":1000000000,\"Retries\":2,\"StartPeriod\":0,\"Test\":[\"CMD\",\"flaky\",\"2\"],\"Timeout\":1000000000}"

-- events, of which the first has that number
abbrev told : ℕ → List ℕ → Answer
told first lines = Answered (record { status = 200; form = ChunkedJson (Some first); close = true }) lines true

-- an event of the container at a moment, which is written in milliseconds
abbrev created : List ℕ → List ℕ → List ℕ
created seconds millis =
    codes "{\"Action\":\"create\",\"Actor\":{\"Attributes\":{\"image\":\"engine/tools:latest\",\"name\":\"web\"},\"ID\":\"" ++ id
    ++ codes "\"},\"Type\":\"container\",\"scope\":\"local\",\"time\":" ++ seconds ++ codes ",\"timeNano\":" ++ millis ++ codes "000000}\n"

-- one that was never started
never_started : result_of (shown check ∷ told 0 (created (codes "1699999999") (codes "1699999999500")) ∷ []) ≡ ended (id ++ codes " none 0\n") [] 0
unfolding data_of is_utf8 chars encode lex punctuate items members value content short_escape code_unit word after_number number_of scan_numeral digits escape_byte line_text is_decimal_below
never_started = refl

-- no check, and one that isn't of the form
no_check : result_of (shown [] ∷ []) ≡ ended [] (codes "dockc: the container has no health check\n") 123
unfolding data_of is_utf8 chars encode lex punctuate items members value content short_escape code_unit word after_number number_of scan_numeral digits escape_byte
no_check = refl

no_command : result_of (shown (codes "\"Healthcheck\":{\"Interval\":1,\"Retries\":1,\"StartPeriod\":0,\"Test\":[\"NONE\"],\"Timeout\":1}") ∷ []) ≡ ended [] no_inspect 123
unfolding data_of is_utf8 chars encode lex punctuate items members value content short_escape code_unit word after_number number_of scan_numeral digits escape_byte byte_serialize percent_encode_byte
no_command = refl

-- the first events are no longer kept
begins_later : result_of (shown check ∷ told 1 [] ∷ []) ≡ ended [] (codes "dockc: the first events are no longer kept\n") 123
unfolding data_of is_utf8 chars encode lex punctuate items members value content short_escape code_unit word after_number number_of scan_numeral digits escape_byte
begins_later = refl

-- a moment falls, or is above UNTIL
falls : result_of (shown check ∷ told 0 (created (codes "1699999999") (codes "1699999999500") ++ created (codes "1699999999") (codes "1699999999499")) ∷ [])
    ≡ ended [] no_events 123
unfolding data_of is_utf8 chars encode lex punctuate items members value content short_escape code_unit word after_number number_of scan_numeral digits escape_byte line_text is_decimal_below byte_serialize percent_encode_byte
falls = refl

too_late : result_of (shown check ∷ told 0 (created (codes "1700000000") (codes "1700000000001")) ∷ []) ≡ ended [] no_events 123
unfolding data_of is_utf8 chars encode lex punctuate items members value content short_escape code_unit word after_number number_of scan_numeral digits escape_byte line_text is_decimal_below byte_serialize percent_encode_byte
too_late = refl
