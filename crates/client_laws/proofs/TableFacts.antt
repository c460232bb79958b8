-- What lines written by hand ask of the daemon (own: the table of commands; Docker Engine API v1.43).
use Rattle.std.proofs.Common.{◌≡◌, ℕ, ◌==◌, List, [], ◌∷◌, ◌++◌, true, false, codes, Some, None, refl}
use Rattle.std.specs.Prelude.{length, pos, negsuc}
use Rattle.std.specs.List.{slice_split}
use Rattle.std.specs.Str.{is_utf8, chars}
use Rattle.std.specs.Float.Numeral.{scan_numeral}
use lib.Utf8.{encode}
use Rattle.json.specs.Lex.{lex, punctuate}
use Rattle.json.specs.Json.{items, members, value}
use Rattle.json.specs.Text.{content, short_escape, code_unit}
use Rattle.json.specs.Word.{word, after_number}
use Rattle.serde_json.specs.Read.{number_of}
use Rattle.json_laws.specs.Text.{data_of}
use Rattle.engine_text.specs.Signal.{number_named}
use Rattle.engine_text.specs.declared.call.Call.TheVariants as call
use Rattle.engine_text.specs.declared.call.CreateSpec.{CreateSpec}
use Rattle.engine_text.specs.declared.call.Until.TheVariants.{NotRunning}
use Rattle.engine_text.specs.declared.filter.FilterKey.TheVariants as filterkey
use Rattle.engine_text.specs.declared.policy.Policy.TheVariants.{No, OnFailure}
use Rattle.http_edge.specs.declared.head.Form.{Form}
use Rattle.http_edge.specs.declared.head.Form.TheVariants.{Json, Empty, Takeover}
use Rattle.response_reader.specs.Answers.{Answer, Answered}
use Rattle.api_json.specs.Update.{given_policy}
use Rattle.api_json.specs.declared.fault.BodyFault.TheVariants.{BadMount, BadVolumeName, BadRestartPolicy}
use Rattle.api_routes.specs.Class.{refusal}
use Rattle.api_routes.specs.declared.class.Class.{Class}
use Rattle.api_routes.specs.declared.class.Class.TheVariants.{Ask, Stream}
use Rattle.api_routes.specs.declared.class.Takeover.TheVariants as takes
use Rattle.api_routes.specs.declared.fault.Fault.TheVariants.{PageNotFound, InvalidName, InvalidSignal, BadSeconds, BadTime, Body}
use Rattle.client_laws.specs.Table.{Entry, calls_for}

-- a request without input, and one that input follows
abbrev plain : Class → Entry
plain class = record { class = class; input = false }

abbrev fed : Class → Entry
fed class = record { class = class; input = true }

-- one request, without input
abbrev only : Class → List Entry
only class = plain class ∷ []

-- the requests of these words by these answers, and those of a text's words, between blanks, before any answer
abbrev by_words : List (List ℕ) → List Answer → List Entry
by_words words answers = calls_for (codes "127.0.0.1:2375" ∷ words) answers

abbrev first_calls : List ℕ → List Entry
first_calls text = by_words (slice_split (λ b. b == 32) text) []

-- ---- the words of one request

abbrev restarting : CreateSpec
restarting = record {
  name = Some (codes "web");
  image = codes "engine/tools";
  words = codes "exit" ∷ codes "7" ∷ [];
  policy = OnFailure 5;
  stop_signal = record { number = 15 };
  stop_after = pos 10;
  open_stdin = false;
  stdin_once = false;
  labels = [];
  mounts = record { volume = codes "data"; target = codes "/d"; read_only = false } ∷ record { volume = codes "logs"; target = codes "/l"; read_only = true } ∷ [];
  auto_remove = false;
  health = None;
}

create : first_calls (codes "create --name web --restart on-failure:5 -v data:/d -v logs:/l:ro engine/tools exit 7") ≡ only (Ask (call.Create restarting))
create = refl

-- a volume's name has two letters
bind : first_calls (codes "create -v d:/d engine/tools") ≡ only (refusal (Body BadMount))
bind = refl

-- only `on-failure` has a maximum
policy : first_calls (codes "create --restart always:5 engine/tools") ≡ only (refusal (Body BadRestartPolicy))
policy = refl

stop : first_calls (codes "stop -t 10 web") ≡ only (Ask (call.Stop (codes "web") (Some (pos 10)) None))
unfolding is_utf8 chars encode
stop = refl

-- without end
restart : first_calls (codes "restart -t -1 web") ≡ only (Ask (call.Restart (codes "web") (Some (negsuc 0)) None))
unfolding is_utf8 chars encode
restart = refl

late : first_calls (codes "stop -t soon web") ≡ only (refusal BadSeconds)
unfolding is_utf8 chars encode
late = refl

kill : first_calls (codes "kill web") ≡ only (Ask (call.Kill (codes "web") (record { number = 9 })))
unfolding is_utf8 chars encode
kill = refl

term : first_calls (codes "kill -s 15 web") ≡ only (Ask (call.Kill (codes "web") (record { number = 15 })))
unfolding is_utf8 chars encode
term = refl

unknown : first_calls (codes "kill -s NONE web") ≡ only (refusal (InvalidSignal (codes "NONE")))
unfolding is_utf8 chars encode number_named
unknown = refl

-- a slash, a blank and a mark of a name are the name's own
pause : by_words (codes "pause" ∷ codes "/a b?c" ∷ []) [] ≡ only (Ask (call.Pause (codes "/a b?c")))
unfolding is_utf8 chars encode
pause = refl

-- the empty word names nothing
nameless : by_words (codes "start" ∷ [] ∷ []) [] ≡ only (refusal PageNotFound)
nameless = refl

rename : by_words (codes "rename" ∷ codes "web" ∷ codes "a&b" ∷ []) [] ≡ only (refusal (InvalidName (codes "a&b")))
unfolding is_utf8 chars encode
rename = refl

update : first_calls (codes "update --restart on-failure:5 web") ≡ only (Ask (call.Update (codes "web") (Some (OnFailure 5))))
unfolding is_utf8 chars encode given_policy
update = refl

-- a name that is none is refused, and the empty one leaves the policy
no_policy : first_calls (codes "update --restart sometimes web") ≡ only (refusal (Body BadRestartPolicy))
unfolding is_utf8 chars encode given_policy
no_policy = refl

left : by_words (codes "update" ∷ codes "--restart" ∷ [] ∷ codes "web" ∷ []) [] ≡ only (Ask (call.Update (codes "web") None))
unfolding is_utf8 chars encode given_policy
left = refl

remove : first_calls (codes "rm -f web") ≡ only (Ask (call.Remove (codes "web") true))
unfolding is_utf8 chars encode
remove = refl

list : first_calls (codes "ps -a") ≡ only (Ask (call.List true None []))
list = refl

logs : first_calls (codes "logs -f web")
    ≡ only (Stream (call.Logs (codes "web") (record { follow = true; out = true; err = true; stamps = false; tail = None; least = 0; greatest = 9999999999999 })) takes.None)
unfolding is_utf8 chars encode
logs = refl

wait : first_calls (codes "wait web") ≡ only (Ask (call.Wait (codes "web") NotRunning))
unfolding is_utf8 chars encode
wait = refl

-- seconds are told in milliseconds
events : first_calls (codes "events 0 1700000000.5") ≡ only (Stream (call.Events (Some 0) (Some 1700000000500) []) takes.None)
events = refl

never : first_calls (codes "watch never") ≡ only (refusal BadTime)
never = refl

volume : first_calls (codes "volume create ..") ≡ only (refusal (Body BadVolumeName))
volume = refl

-- a journal is replayed without a request, and words that are no line ask nothing
replay : first_calls (codes "replay 1700000000000") ≡ []
replay = refl

no_line : first_calls (codes "stop web db") ≡ []
no_line = refl

-- ---- the answers before a request

-- a whole answer with this status, form and body
abbrev answered : ℕ → Form → List ℕ → Answer
answered status form body = Answered (record { status = status; form = form; close = true }) body true

abbrev told : ℕ → List ℕ → Answer
told status body = answered status (Json (length body)) body

abbrev created : Answer
created = told 201 (codes "{\"Id\":\"1f\"}")

-- a stream of no frame, on a connection taken over
abbrev taken : Answer
taken = Answered (record { status = 101; form = Takeover true; close = true }) [] true

abbrev reading : CreateSpec
reading = record {
  name = None;
  image = codes "engine/tools";
  words = codes "cat" ∷ [];
  policy = No;
  stop_signal = record { number = 15 };
  stop_after = pos 10;
  open_stdin = true;
  stdin_once = true;
  labels = [];
  mounts = [];
  auto_remove = false;
  health = None;
}

abbrev run_words : List (List ℕ)
run_words = slice_split (λ b. b == 32) (codes "run -i --rm engine/tools cat")

-- create, start, attach with input, wait, remove
run : by_words run_words (created ∷ answered 204 Empty [] ∷ taken ∷ told 200 (codes "{\"StatusCode\":0}") ∷ [])
    ≡ plain (Ask (call.Create reading))
    ∷ plain (Ask (call.Start (codes "1f")))
    ∷ fed (Stream (call.Attach (codes "1f") (record { logs = true; stream = true; stdin = true; out = true; err = true })) takes.Upgrade)
    ∷ plain (Ask (call.Wait (codes "1f") NotRunning))
    ∷ plain (Ask (call.Remove (codes "1f") false)) ∷ []
unfolding data_of is_utf8 chars encode lex punctuate items members value content short_escape code_unit word after_number number_of scan_numeral
run = refl

-- an answer that refuses ends it
refused : by_words run_words (created ∷ told 409 (codes "{\"message\":\"no\"}") ∷ []) ≡ plain (Ask (call.Create reading)) ∷ plain (Ask (call.Start (codes "1f"))) ∷ []
unfolding data_of is_utf8 chars encode lex punctuate items members value content short_escape code_unit word after_number number_of scan_numeral
refused = refl

-- and so does one that tells no id
idless : by_words run_words (told 201 (codes "{}") ∷ []) ≡ only (Ask (call.Create reading))
unfolding data_of is_utf8 chars encode lex punctuate items members value content short_escape code_unit word after_number number_of scan_numeral
idless = refl

exec : by_words (slice_split (λ b. b == 32) (codes "exec web echo x")) (created ∷ taken ∷ [])
    ≡ plain (Ask (call.ExecCreate (codes "web") (codes "echo" ∷ codes "x" ∷ []) false true true))
    ∷ plain (Stream (call.ExecStart (codes "1f") false) takes.Upgrade)
    ∷ plain (Ask (call.ExecInspect (codes "1f"))) ∷ []
unfolding data_of is_utf8 chars encode lex punctuate items members value content short_escape code_unit word after_number number_of scan_numeral
exec = refl

-- of a container with a check its events are asked for, by its id; and nothing more of one without
abbrev health_words : List (List ℕ)
health_words = slice_split (λ b. b == 32) (codes "health 1700000000 web")

abbrev long_id : List ℕ
long_id = codes "76b8e0ada0f13d90405d6ae55386bd28bdd219b8a08ded1a0000000000000000"

abbrev shown : List ℕ → Answer
shown config = told 200 (codes "{\"Config\":{" ++ config ++ codes "},\"Id\":\"" ++ long_id ++ codes "\"}")

health : by_words health_words (
    shown (codes "\"Healthcheck\":{\"Interval\":1000000000,\"Retries\":2,\"StartPeriod\":0,\"Test\":[\"CMD\",\"flaky\",\"2\"],\"Timeout\":1000000000}") ∷ [])
    ≡ plain (Ask (call.Inspect (codes "web")))
    ∷ plain (Stream (call.Events (Some 0) (Some 1700000000000) (record { key = filterkey.Container; values = long_id ∷ [] } ∷ [])) takes.None) ∷ []
unfolding data_of is_utf8 chars encode lex punctuate items members value content short_escape code_unit word after_number number_of scan_numeral
health = refl

unchecked : by_words health_words (shown [] ∷ []) ≡ only (Ask (call.Inspect (codes "web")))
unfolding data_of is_utf8 chars encode lex punctuate items members value content short_escape code_unit word after_number number_of scan_numeral
unchecked = refl
