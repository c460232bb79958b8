-- The class of each request whose answer is a stream, and of those of execs and volumes by their names.
use Rattle.std.proofs.Common.{◌≡◌, ℕ, ◌||◌, Bool, true, false, List, [], ◌∷◌, ◌++◌, All, cond, codes, IsUtf8, Ok, Err, refl, ap, ◌∙◌}
use Rattle.std.specs.Prelude.{unwrap_or}
use Rattle.percent_encoding.proofs.PercentLemmas.{IsByte}
use Rattle.httparse.specs.Grammar.{trim_ows}
use Rattle.http_edge.specs.Asks.{asks_upgrade}
use Rattle.engine_text.specs.declared.filter.FilterKey.TheVariants as filterkey
use Rattle.engine_text.specs.declared.call.Call.TheVariants as call
use Rattle.api_json.specs.ExecCreate.{exec_start_of}
use Rattle.api_json.specs.Filters.{filter_of}
use Rattle.api_routes.specs.Fault.{and_then}
use Rattle.api_routes.specs.Keys.{optional_limit, optional_time, or_fault, read_tail}
use Rattle.api_routes.specs.Calls.{of_body, list_keys, event_keys, end_of}
use Rattle.api_routes.specs.Class.{class_of, or_refusal}
use Rattle.api_routes.specs.RouteClass.{ask, in_chunks, takeover, exec_start_class}
use Rattle.api_routes.specs.declared.class.Class.TheVariants.{Stream}
use Rattle.api_routes.specs.declared.class.Takeover.TheVariants as takes
use Rattle.api_routes.specs.declared.fault.Fault.TheVariants.{BadTail, NoStream}
use Rattle.api_routes.specs.declared.route.Route.TheVariants as to
use Rattle.client_model.specs.declared.manner.Manner.TheVariants.{Closes, Upgrades}
use Rattle.client_model.specs.Requests.{Query, key, key_set, request_of, operation_path, exec_path}
use Rattle.client_model.specs.Commands.Logs.{logs_request, both_streams}
use Rattle.client_model.specs.Commands.Attach.{attach_request, attach_query}
use Rattle.client_model.specs.Commands.Exec.{exec_start_request, exec_inspect_request}
use Rattle.client_model.specs.Commands.Events.{events_request}
use Rattle.client_model.specs.Commands.Journal.{journal_request}
use Rattle.client_model.specs.Commands.List.{list_request}
use Rattle.client_model.specs.Commands.Version.{version_request}
use Rattle.client_model.specs.Commands.VolumeInspect.{volume_inspect_request}
use Rattle.client_model.specs.Commands.VolumeRemove.{volume_remove_request}
use Rattle.client_model.specs.Commands.VolumeList.{volume_list_request}
use Rattle.client_laws.specs.Classes as class
use Rattle.client_laws.specs.Classes.{Meaning, by_name}
use Rattle.client_laws.proofs.FormLemmas.{AreTexts}
use Rattle.client_laws.proofs.RequestLemmas.{class-routed}
use Rattle.client_laws.proofs.RowLemmas.{named-class, worded-class, logs-row, attach-row, exec-start-row, exec-inspect-row, volume-inspect-row, volume-remove-row}
use Rattle.client_laws.proofs.ClassLemmas.{Lookup, is_set, found_in, given_in, looked-up, literal, key-set-texts}
use Rattle.client_laws.proofs.BodyLemmas.{exec-start-read}

-- a request that is to take its connection over asks to upgrade it
upgrades : (path : List (List ℕ)) (query : Query) → asks_upgrade (request_of (codes "POST") Upgrades path query []) ≡ true
unfolding trim_ows
upgrades path query = refl

one : IsUtf8 (codes "1")
one = literal (codes "1") refl

-- ---- logs

abbrev logs_by : List ℕ → Lookup → Meaning
logs_by target found =
    in_chunks (and_then (cond (is_set (codes "stdout") found || is_set (codes "stderr") found)
    (and_then (optional_time (found (codes "since"))) (λ since.
    and_then (optional_time (found (codes "until"))) (λ until.
    and_then (or_fault BadTail (read_tail (unwrap_or (found (codes "tail")) []))) (λ tail.
    Ok (record {
      follow = is_set (codes "follow") found;
      out = is_set (codes "stdout") found;
      err = is_set (codes "stderr") found;
      stamps = is_set (codes "timestamps") found;
      tail = tail;
      least = unwrap_or since 0;
      greatest = end_of until;
    })))))
    (Err NoStream))
    (λ ask. Ok (call.Logs target ask)))

logs-given : (target : List ℕ) (follow : Bool)
    → logs_by target (given_in (both_streams ++ key_set (codes "follow") follow)) ≡ Ok (Stream (call.Logs target (class.all_records follow)) takes.None)
logs-given target true = refl
logs-given target false = refl

logs-texts : (follow : Bool) → AreTexts (both_streams ++ key_set (codes "follow") follow)
logs-texts true = (literal (codes "stdout") refl, one, (literal (codes "stderr") refl, one, (literal (codes "follow") refl, one, tt)))
logs-texts false = (literal (codes "stdout") refl, one, (literal (codes "stderr") refl, one, tt))

pub logs-class : (target : List ℕ) (follow : Bool) → All IsByte target
    → class_of (logs_request target follow) ≡ or_refusal (class.logs target follow)
logs-class target follow bytes =
    let query = both_streams ++ key_set (codes "follow") follow in
    named-class (codes "GET") Closes (codes "containers") (codes "logs" ∷ []) query [] to.Logs target logs-row bytes
    ∙ ap (λ found. or_refusal (by_name target (logs_by target found))) (looked-up query (logs-texts follow))
    ∙ ap (λ asked. or_refusal (by_name target asked)) (logs-given target follow)

-- ---- attach

abbrev attach_by : List ℕ → Bool → Lookup → Meaning
attach_by target upgrade found = Ok (Stream (call.Attach target (record {
  logs = is_set (codes "logs") found;
  stream = is_set (codes "stream") found;
  stdin = is_set (codes "stdin") found;
  out = is_set (codes "stdout") found;
  err = is_set (codes "stderr") found;
})) (takeover upgrade))

attach-given : (target : List ℕ) (input : Bool)
    → attach_by target true (given_in (attach_query ++ key_set (codes "stdin") input)) ≡ Ok (Stream (call.Attach target (class.both_streams input)) takes.Upgrade)
attach-given target true = refl
attach-given target false = refl

attach-texts : (input : Bool) → AreTexts (attach_query ++ key_set (codes "stdin") input)
attach-texts true = (
  literal (codes "logs") refl,
  one,
  (
    literal (codes "stream") refl,
    one,
    (
      literal (codes "stdout") refl,
      one,
      (literal (codes "stderr") refl, one, (literal (codes "stdin") refl, one, tt)),
    ),
  ),
)
attach-texts false =
    (literal (codes "logs") refl, one, (literal (codes "stream") refl, one, (literal (codes "stdout") refl, one, (literal (codes "stderr") refl, one, tt))))

pub attach-class : (target : List ℕ) (input : Bool) → All IsByte target
    → class_of (attach_request target input) ≡ or_refusal (class.attach target input)
attach-class target input bytes =
    let query = attach_query ++ key_set (codes "stdin") input in
    named-class (codes "POST") Upgrades (codes "containers") (codes "attach" ∷ []) query [] to.Attach target attach-row bytes
    ∙ ap (λ upgrade. or_refusal (by_name target (attach_by target upgrade (found_in query)))) (upgrades (operation_path target (codes "attach")) query)
    ∙ ap (λ found. or_refusal (by_name target (attach_by target true found))) (looked-up query (attach-texts input))
    ∙ ap (λ asked. or_refusal (by_name target asked)) (attach-given target input)

-- ---- execs

pub exec-start-class : (id : List ℕ) → All IsByte id → class_of (exec_start_request id) ≡ or_refusal (class.exec_start id)
exec-start-class id bytes =
    named-class (codes "POST") Upgrades (codes "exec") (codes "start" ∷ []) [] [] to.ExecStart id exec-start-row bytes
    ∙ ap (λ upgrade. or_refusal (by_name id (and_then (of_body (exec_start_of [])) (λ detach. Ok (exec_start_class id upgrade detach)))))
    (upgrades (exec_path id (codes "start")) [])
    ∙ ap (λ r. or_refusal (by_name id (and_then (of_body r) (λ detach. Ok (exec_start_class id true detach))))) exec-start-read

pub exec-inspect-class : (id : List ℕ) → All IsByte id → class_of (exec_inspect_request id) ≡ or_refusal (class.exec_inspect id)
exec-inspect-class id bytes = named-class (codes "GET") Closes (codes "exec") (codes "json" ∷ []) [] [] to.ExecInspect id exec-inspect-row bytes

-- ---- volumes

pub volume-inspect-class : (name : List ℕ) → All IsByte name → class_of (volume_inspect_request name) ≡ or_refusal (class.volume_inspect name)
volume-inspect-class name bytes = named-class (codes "GET") Closes (codes "volumes") [] [] [] to.VolumeInspect name volume-inspect-row bytes

pub volume-remove-class : (name : List ℕ) → All IsByte name → class_of (volume_remove_request name) ≡ or_refusal (class.volume_remove name)
volume-remove-class name bytes = named-class (codes "DELETE") Closes (codes "volumes") [] [] [] to.VolumeRemove name volume-remove-row bytes

-- ---- without a name in the path

-- the text of a literal segment is itself
pub version-class : class_of version_request ≡ or_refusal class.version
version-class = class-routed (codes "GET") Closes (codes "version" ∷ []) [] []

pub volume-list-class : class_of volume_list_request ≡ or_refusal class.volume_list
unfolding filter_of
volume-list-class =
    class-routed (codes "GET") Closes (codes "volumes" ∷ []) [] []
    ∙ ap (λ found. or_refusal (ask (and_then (of_body (filter_of (filterkey.Name ∷ []) (unwrap_or (found (codes "filters")) []))) (λ filter. Ok (call.VolumeList filter))))) (looked-up [] tt)

pub journal-class : class_of journal_request ≡ or_refusal class.journal
journal-class = worded-class (codes "GET") Closes (codes "engine") (codes "journal") [] [] to.Journal refl (literal (codes "journal") refl)

abbrev list_by : Lookup → Meaning
list_by found =
    ask (and_then (optional_limit (found (codes "limit"))) (λ limit.
    and_then (of_body (filter_of list_keys (unwrap_or (found (codes "filters")) []))) (λ filter.
    Ok (call.List (is_set (codes "all") found) limit filter))))

list-given : (all : Bool) → list_by (given_in (key_set (codes "all") all)) ≡ class.containers all
unfolding filter_of
list-given true = refl
list-given false = refl

pub list-class : (all : Bool) → class_of (list_request all) ≡ or_refusal (class.containers all)
list-class all =
    let query = key_set (codes "all") all in
    worded-class (codes "GET") Closes (codes "containers") (codes "json") query [] to.List refl (literal (codes "json") refl)
    ∙ ap (λ found. or_refusal (list_by found)) (looked-up query (key-set-texts (codes "all") all refl))
    ∙ ap or_refusal (list-given all)

abbrev pub events_by : Lookup → Meaning
events_by found =
    in_chunks (and_then (optional_time (found (codes "since"))) (λ since.
    and_then (optional_time (found (codes "until"))) (λ until.
    and_then (of_body (filter_of event_keys (unwrap_or (found (codes "filters")) []))) (λ filter.
    Ok (call.Events since until filter)))))

events-given : (since until : List ℕ) → events_by (given_in (key (codes "since") since ++ key (codes "until") until)) ≡ class.events since until
unfolding filter_of
events-given since until = refl

pub events-class : (since until : List ℕ) → IsUtf8 since → IsUtf8 until → class_of (events_request since until) ≡ or_refusal (class.events since until)
events-class since until s u =
    let query = key (codes "since") since ++ key (codes "until") until in
    class-routed (codes "GET") Closes (codes "events" ∷ []) query []
    ∙ ap (λ found. or_refusal (events_by found)) (looked-up query (literal (codes "since") refl, s, (literal (codes "until") refl, u, tt)))
    ∙ ap or_refusal (events-given since until)
