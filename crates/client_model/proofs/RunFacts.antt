-- Whole runs: what is written, and the status (own).
use Rattle.std.proofs.Common.{◌≡◌, ℕ, List, [], ◌∷◌, ◌++◌, Bool, true, false, Option, Some, None, codes, refl, ap}
use Rattle.std.specs.Prelude.{length, map, nat_lt, if◌then◌else◌}
use Rattle.std.specs.Str.{is_utf8, chars}
use Rattle.std.specs.Fmt.{digits}
use Rattle.std.specs.Float.Numeral.{scan_numeral}
use lib.Utf8.{encode}
use Rattle.json.specs.Print.{escape_byte}
use Rattle.form_urlencoded.specs.Form.{byte_serialize}
use Rattle.percent_encoding.specs.Percent.{percent_encode_byte}
use Rattle.json.specs.Lex.{lex, punctuate}
use Rattle.json.specs.Json.{items, members, value}
use Rattle.json.specs.Text.{content, short_escape, code_unit}
use Rattle.json.specs.Word.{word, after_number}
use Rattle.serde_json.specs.Read.{number_of}
use Rattle.json_laws.specs.Text.{data_of}
use Rattle.json_laws.specs.Sound.{line_text}
use Rattle.api_json.specs.EventRules.{is_decimal_below}
use Rattle.http_edge.specs.declared.head.Form.{Form}
use Rattle.http_edge.specs.declared.head.Form.TheVariants.{Json, Empty, ChunkedFrames, ChunkedJson, Takeover}
use Rattle.journal_lines.specs.declared.verdict.Verdict.{Verdict}
use Rattle.journal_lines.specs.declared.verdict.Verdict.TheVariants.{Legal, Illegal, BadLine}
use Rattle.response_reader.specs.Answers.{Answer, NoHead, Answered}
use Rattle.client_model.specs.Client.{Result, client_result}
use Rattle.client_model.specs.Judgement.{Judgement}
use Rattle.client_model.specs.Lines.{command_names}
use Rattle.client_model.specs.Plans.{cut_fault}
use Rattle.client_model.specs.Streams.{is_unfit}
use Rattle.client_model.specs.declared.showing.Showing.TheVariants.{Demuxed}
use Rattle.client_model.specs.Lines.{usages}
use Rattle.client_model.specs.Faults.{status_of, fault_line}
use Rattle.client_model.specs.declared.fault.Fault.TheVariants as F
use Rattle.client_model.proofs.LineFacts.{words_of, address}

-- what a line comes to by a judgement or none, and by these answers
abbrev result_by : List ℕ → Option Judgement → List Answer → Option Result
result_by text judgement answers = client_result (address ∷ words_of text) judgement answers

abbrev result_of : List ℕ → List Answer → Option Result
result_of text answers = result_by text None answers

-- what was written, and the status
abbrev ended : List ℕ → List ℕ → ℕ → Option Result
ended out err status = Some (record { out = out; err = err; status = status })

-- an answer of this form as far as it came; a whole one with this status and body; and one without a body
abbrev of_form : Form → List ℕ → Bool → Answer
of_form form body whole = Answered (record { status = 200; form = form; close = true }) body whole

abbrev answered : ℕ → List ℕ → Answer
answered status body = Answered (record { status = status; form = Json (length body); close = true }) body true

abbrev empty : Answer
empty = Answered (record { status = 204; form = Empty; close = true }) [] true

-- what is told of an answer that isn't one of the API's
abbrev pub no_answer : List ℕ → List ℕ → List ℕ
no_answer request status = codes "dockc: the answer to " ++ request ++ codes " HTTP/1.1 isn't one of the Engine API's: " ++ status ++ codes "\n"

abbrev no_logs : List ℕ
no_logs = no_answer (codes "GET /v1.43/containers/web/logs?stdout=1&stderr=1") (codes "status 200")

-- ---- answers

start : result_of (codes "start web") (empty ∷ []) ≡ ended (codes "web\n") [] 0
start = refl

created : result_of (codes "create engine/tools") (answered 201 (codes "{\"Id\":\"1f\",\"Warnings\":[]}") ∷ []) ≡ ended (codes "1f\n") [] 0
unfolding data_of is_utf8 chars encode lex punctuate items members value content short_escape code_unit word after_number number_of scan_numeral digits escape_byte
created = refl

-- a text without a byte is no id
no_id : result_of (codes "create engine/tools") (answered 201 (codes "{\"Id\":\"\"}") ∷ []) ≡ ended [] (no_answer (codes "POST /v1.43/containers/create") (codes "status 201")) 123
unfolding data_of is_utf8 chars encode lex punctuate items members value content short_escape code_unit word after_number number_of scan_numeral digits escape_byte byte_serialize percent_encode_byte
no_id = refl

-- of each container its id, its first name without the slash, its state and its status
listed : result_of (codes "ps") (answered 200 (codes "[{\"Id\":\"1f\",\"Names\":[\"/web\"],\"State\":\"exited\",\"Status\":\"Exited (3)\"}]") ∷ [])
    ≡ ended (codes "1f web exited Exited (3)\n") [] 0
unfolding data_of is_utf8 chars encode lex punctuate items members value content short_escape code_unit word after_number number_of scan_numeral digits escape_byte
listed = refl

-- a refusal's message is told, status 125; without one the answer isn't one of this API's, status 123
refused : result_of (codes "logs web") (answered 404 (codes "{\"message\":\"No such container: web\"}") ∷ [])
    ≡ ended [] (codes "No such container: web\n") 125
unfolding data_of is_utf8 chars encode lex punctuate items members value content short_escape code_unit word after_number number_of scan_numeral digits escape_byte
refused = refl

no_message : result_of (codes "start web") (answered 404 (codes "{}") ∷ []) ≡ ended [] (no_answer (codes "POST /v1.43/containers/web/start") (codes "status 404")) 123
unfolding data_of is_utf8 chars encode lex punctuate items members value content short_escape code_unit word after_number number_of scan_numeral digits escape_byte byte_serialize percent_encode_byte
no_message = refl

no_head : result_of (codes "ps") (NoHead ∷ []) ≡ ended [] (no_answer (codes "GET /v1.43/containers/json") (codes "no status")) 123
unfolding digits byte_serialize percent_encode_byte
no_head = refl

-- nothing is said of an answer that hasn't come
still_asked : result_of (codes "ps") [] ≡ None
still_asked = refl

-- 122 is a fault of the three streams, and 124 want of memory; a link and a connection fail by 125
input_failed : status_of F.Input ≡ 122
input_failed = refl

memory_wanting : status_of F.NoMemory ≡ 124
memory_wanting = refl

link_failed : status_of F.Link ≡ 125
link_failed = refl

-- words that are no line
no_line : result_of (codes "top web") []
    ≡ ended [] (codes "usage: dockc ADDR create|run|start|pause|unpause|stop|restart|kill|rm|rename|update|ps|inspect|version|logs|attach|exec|wait|events|watch|health|volume|journal|replay [OPTIONS] [WORD..] (ADDR is 127.0.0.1:PORT)\n") 2
no_line = refl

-- no line of a command that there is
no_stop : result_of (codes "stop -t web") [] ≡ ended [] (codes "usage: dockc ADDR stop [-t N] REF (ADDR is 127.0.0.1:PORT)\n") 2
no_stop = refl

-- each command has its usage
usages_named : map (λ row. row.0) usages ≡ command_names
usages_named = refl

-- where no connection can be made, the address is told
no_connection : fault_line (address ∷ words_of (codes "ps")) F.Link ≡ codes "dockc: can't connect to the daemon at 127.0.0.1:2375\n"
no_connection = refl

-- ---- streams

-- one byte on standard error
whole_frame : result_of (codes "logs web") (of_form ChunkedFrames (2 ∷ 0 ∷ 0 ∷ 0 ∷ 0 ∷ 0 ∷ 0 ∷ 1 ∷ 33 ∷ []) true ∷ [])
    ≡ ended [] (codes "!") 0
whole_frame = refl

-- a stream that ends in a header, one that ends in a payload, and a byte that is no stream's
cut_in_header : result_of (codes "logs web") (of_form ChunkedFrames (1 ∷ 0 ∷ 0 ∷ 0 ∷ 0 ∷ 0 ∷ []) true ∷ []) ≡ ended [] no_logs 123
unfolding digits byte_serialize percent_encode_byte
cut_in_header = refl

cut_in_payload : result_of (codes "logs web") (of_form ChunkedFrames (1 ∷ 0 ∷ 0 ∷ 0 ∷ 0 ∷ 0 ∷ 0 ∷ 5 ∷ 97 ∷ 98 ∷ []) true ∷ [])
    ≡ ended (codes "ab") no_logs 123
unfolding digits byte_serialize percent_encode_byte
cut_in_payload = refl

no_stream : result_of (codes "logs web") (of_form ChunkedFrames (5 ∷ 0 ∷ 0 ∷ 0 ∷ 0 ∷ 0 ∷ 0 ∷ 1 ∷ 33 ∷ []) true ∷ []) ≡ ended [] no_logs 123
unfolding digits byte_serialize percent_encode_byte
no_stream = refl

-- of a body that is kept 64 MiB are taken, and not one byte more
long_enough : (body : List ℕ) → length body ≡ 67108864 → cut_fault body ≡ F.Answer
long_enough body is = ap (λ n. if nat_lt 67108864 n then F.TooLong else F.Answer) is

too_long : (body : List ℕ) → length body ≡ 67108865 → cut_fault body ≡ F.TooLong
too_long body is = ap (λ n. if nat_lt 67108864 n then F.TooLong else F.Answer) is

-- of frames those up to the first wrong byte
wrong_there : is_unfit Demuxed (1 ∷ 0 ∷ 0 ∷ 0 ∷ 0 ∷ 0 ∷ 0 ∷ 1 ∷ 97 ∷ 3 ∷ []) ≡ true
wrong_there = refl

right_so_far : is_unfit Demuxed (1 ∷ 0 ∷ 0 ∷ 0 ∷ 0 ∷ 0 ∷ 0 ∷ 1 ∷ 97 ∷ 2 ∷ []) ≡ false
right_so_far = refl

-- whole frames of a body that was cut
cut_body : result_of (codes "logs web") (of_form ChunkedFrames (2 ∷ 0 ∷ 0 ∷ 0 ∷ 0 ∷ 0 ∷ 0 ∷ 1 ∷ 33 ∷ []) false ∷ [])
    ≡ ended [] (codes "!" ++ no_logs) 123
unfolding digits byte_serialize percent_encode_byte
cut_body = refl

-- ---- codes

-- `run` ends with the code of the wait
run_code : result_of (codes "run engine/tools exit 7") (
    answered 201 (codes "{\"Id\":\"1f\"}") ∷ empty ∷ of_form (Takeover true) [] true ∷ answered 200 (codes "{\"StatusCode\":7}") ∷ [])
    ≡ ended [] [] 7
unfolding data_of is_utf8 chars encode lex punctuate items members value content short_escape code_unit word after_number number_of scan_numeral digits escape_byte
run_code = refl

-- `exec` with the code of the exec, which may be none
exec_code : result_of (codes "exec web exit 3") (
    answered 201 (codes "{\"Id\":\"2a\"}") ∷ of_form (Takeover true) [] true ∷ answered 200 (codes "{\"ExitCode\":3}") ∷ [])
    ≡ ended [] [] 3
unfolding data_of is_utf8 chars encode lex punctuate items members value content short_escape code_unit word after_number number_of scan_numeral digits escape_byte
exec_code = refl

no_code : result_of (codes "exec web deaf") (
    answered 201 (codes "{\"Id\":\"2a\"}") ∷ of_form (Takeover true) [] true ∷ answered 200 (codes "{\"ExitCode\":null}") ∷ [])
    ≡ ended [] (codes "dockc: the exec has no exit code\n") 123
unfolding data_of is_utf8 chars encode lex punctuate items members value content short_escape code_unit word after_number number_of scan_numeral digits escape_byte
no_code = refl

-- ---- events and journals

-- what two events tell of their container
watched : result_of (codes "watch 1700000000") (of_form (ChunkedJson (Some 0)) (
    codes "{\"Action\":\"create\",\"Actor\":{\"Attributes\":{\"image\":\"engine/tools:latest\",\"name\":\"web\"},\"ID\":\"1f\"},\"Type\":\"container\",\"scope\":\"local\",\"time\":1700000000,\"timeNano\":1700000000000000000}\n"
    ++ codes "{\"Action\":\"start\",\"Actor\":{\"Attributes\":{\"image\":\"engine/tools:latest\",\"name\":\"web\"},\"ID\":\"1f\"},\"Type\":\"container\",\"scope\":\"local\",\"time\":1700000000,\"timeNano\":1700000000000000000}\n") true ∷ [])
    ≡ ended (codes "1f web live not-paused 0\n") [] 0
unfolding data_of is_utf8 chars encode lex punctuate items members value content short_escape code_unit word after_number number_of scan_numeral digits escape_byte line_text is_decimal_below
watched = refl

-- the first events are no longer kept, and none is told to be the first
begins_later : result_of (codes "watch 1700000000") (of_form (ChunkedJson (Some 1)) [] true ∷ [])
    ≡ ended [] (codes "dockc: the first events are no longer kept\n") 123
unfolding data_of is_utf8 chars encode lex punctuate items members value content short_escape code_unit word after_number number_of scan_numeral digits escape_byte
begins_later = refl

begins_anywhere : result_of (codes "watch 1700000000") (of_form (ChunkedJson None) [] true ∷ []) ≡ ended [] (no_answer (codes "GET /v1.43/events?since=0&until=1700000000") (codes "status 200")) 123
unfolding data_of is_utf8 chars encode lex punctuate items members value content short_escape code_unit word after_number number_of scan_numeral digits escape_byte byte_serialize percent_encode_byte
begins_anywhere = refl

-- what a line comes to by a verdict and a text in format 2
abbrev judged_as : List ℕ → Verdict → List ℕ → Option Result
judged_as text verdict new = result_by text (Some (record { verdict = verdict; upgrade = new })) []

-- verdicts
legal : judged_as (codes "replay 0") (Legal 4) (codes "header\nline\n") ≡ ended (codes "legal 4\n") [] 0
unfolding digits
legal = refl

illegal : judged_as (codes "replay 0") (Illegal 3 (codes "204") (codes "304")) [] ≡ ended (codes "illegal line 3\nkept 204\nfound 304\n") [] 1
unfolding digits
illegal = refl

bad_line : judged_as (codes "replay 0") (BadLine 2) [] ≡ ended (codes "bad line 2\n") [] 3
unfolding digits
bad_line = refl

-- in the place of `legal` the text in format 2, as it is, where that is asked for
upgraded : judged_as (codes "replay --upgrade") (Legal 4) (codes "header\nline\n") ≡ ended (codes "header\nline\n") [] 0
upgraded = refl

illegal_upgrade : judged_as (codes "replay --upgrade") (Illegal 3 (codes "204") (codes "304")) [] ≡ ended (codes "illegal line 3\nkept 204\nfound 304\n") [] 1
unfolding digits
illegal_upgrade = refl

bad_upgrade : judged_as (codes "replay --upgrade") (BadLine 2) [] ≡ ended (codes "bad line 2\n") [] 3
unfolding digits
bad_upgrade = refl
