-- What the request of each route asks for (Docker Engine API v1.43, the operations of containers, exec, volumes and system; own: JournalRead).
use Rattle.std.specs.Prelude.{ℕ, ◌==◌, ◌||◌, List, [], ◌∷◌, Option, Some, None, unwrap_or, codes, if◌then◌else◌, Result, Ok, Err}
use Rattle.engine_text.specs.declared.call.Call.{Call}
use Rattle.engine_text.specs.declared.call.Call.TheVariants as call
use Rattle.engine_text.specs.declared.call.LogAsk.{LogAsk}
use Rattle.engine_text.specs.declared.call.AttachAsk.{AttachAsk}
use Rattle.engine_text.specs.declared.filter.FilterKey.{FilterKey}
use Rattle.engine_text.specs.declared.filter.FilterKey.TheVariants as key
use Rattle.engine_text.specs.declared.filter.FilterRow.{FilterRow}
use Rattle.api_json.specs.Create.{create_of}
use Rattle.api_json.specs.ExecCreate.{exec_of}
use Rattle.api_json.specs.Update.{update_of}
use Rattle.api_json.specs.VolumeCreate.{volume_of}
use Rattle.api_json.specs.Filters.{filter_of}
use Rattle.api_json.specs.declared.fault.BodyFault.{BodyFault}
use Rattle.engine_text.specs.Soundness.{far}
use Rattle.api_routes.specs.Fault.{and_then}
use Rattle.api_routes.specs.Query.{value_or_empty}
use Rattle.api_routes.specs.Keys.{flag, create_name, new_name, signal_in, kill_signal, seconds_in, limit_in, tail_in, condition_in, time_in}
use Rattle.api_routes.specs.declared.fault.Fault.{Fault}
use Rattle.api_routes.specs.declared.fault.Fault.TheVariants.{Body, NoStream, LinksLeftOut}

-- what a body says, or its fault
abbrev pub of_body : {A : Type 0} → Result A BodyFault → Result A Fault
of_body (Ok x) = Ok x
of_body (Err fault) = Err (Body fault)

-- the filters of a query, with the keys of its call
abbrev pub filters_in : List FilterKey → List ℕ → Result (List FilterRow) Fault
filters_in keys query = of_body (filter_of keys (value_or_empty (codes "filters") query))

-- ---- containers

-- the body's faults come before those of the name
abbrev pub create_call : List ℕ → List ℕ → Result Call Fault
create_call query body =
    and_then (of_body (create_of None body)) (λ spec.
    and_then (create_name query) (λ name.
    Ok (call.Create (record spec { name = name }))))

abbrev pub list_keys : List FilterKey
list_keys = key.Id ∷ key.Name ∷ key.State ∷ key.Exited ∷ key.Ancestor ∷ key.Label ∷ key.Volume ∷ []

abbrev pub list_call : List ℕ → Result Call Fault
list_call query =
    and_then (limit_in query) (λ limit.
    and_then (filters_in list_keys query) (λ filter.
    Ok (call.List (flag (codes "all") query) limit filter)))

abbrev pub stop_call : List ℕ → List ℕ → Result Call Fault
stop_call target query =
    and_then (seconds_in query) (λ wait.
    and_then (signal_in query) (λ signal.
    Ok (call.Stop target wait signal)))

abbrev pub restart_call : List ℕ → List ℕ → Result Call Fault
restart_call target query =
    and_then (seconds_in query) (λ wait.
    and_then (signal_in query) (λ signal.
    Ok (call.Restart target wait signal)))

abbrev pub kill_call : List ℕ → List ℕ → Result Call Fault
kill_call target query = and_then (signal_in query) (λ signal. Ok (call.Kill target (unwrap_or signal kill_signal)))

abbrev pub rename_call : List ℕ → List ℕ → Result Call Fault
rename_call target query = and_then (new_name query) (λ name. Ok (call.Rename target name))

-- ContainerUpdate.
abbrev pub update_call : List ℕ → List ℕ → Result Call Fault
update_call target body = and_then (of_body (update_of body)) (λ policy. Ok (call.Update target policy))

abbrev pub wait_call : List ℕ → List ℕ → Result Call Fault
wait_call target query = and_then (condition_in query) (λ until. Ok (call.Wait target until))

abbrev pub remove_call : List ℕ → List ℕ → Result Call Fault
remove_call target query =
    if flag (codes "link") query then Err LinksLeftOut else Ok (call.Remove target (flag (codes "force") query))

-- ---- logs and attach

-- an absent or zero end means none
abbrev pub end_of : Option ℕ → ℕ
end_of None = far
end_of (Some moment) = if moment == 0 then far else moment

abbrev pub asked_logs : List ℕ → Option ℕ → Option ℕ → Option ℕ → LogAsk
asked_logs query since until tail = record {
  follow = flag (codes "follow") query;
  out = flag (codes "stdout") query;
  err = flag (codes "stderr") query;
  stamps = flag (codes "timestamps") query;
  tail = tail;
  least = unwrap_or since 0;
  greatest = end_of until;
}

-- at least one stream
abbrev pub log_ask : List ℕ → Result LogAsk Fault
log_ask query =
    if flag (codes "stdout") query || flag (codes "stderr") query
    then and_then (time_in (codes "since") query) (λ since.
    and_then (time_in (codes "until") query) (λ until.
    and_then (tail_in query) (λ tail.
    Ok (asked_logs query since until tail))))
    else Err NoStream

abbrev pub logs_call : List ℕ → List ℕ → Result Call Fault
logs_call target query = and_then (log_ask query) (λ ask. Ok (call.Logs target ask))

abbrev pub attach_ask : List ℕ → AttachAsk
attach_ask query = record {
  logs = flag (codes "logs") query;
  stream = flag (codes "stream") query;
  stdin = flag (codes "stdin") query;
  out = flag (codes "stdout") query;
  err = flag (codes "stderr") query;
}

-- ---- exec, volumes and events

abbrev pub exec_create_call : List ℕ → List ℕ → Result Call Fault
exec_create_call target body =
    and_then (of_body (exec_of body)) (λ exec. Ok (call.ExecCreate target exec.words exec.stdin exec.out exec.err))

abbrev pub volume_create_call : List ℕ → Result Call Fault
volume_create_call body = and_then (of_body (volume_of body)) (λ volume. Ok (call.VolumeCreate volume.name volume.labels))

abbrev pub volume_list_call : List ℕ → Result Call Fault
volume_list_call query = and_then (filters_in (key.Name ∷ []) query) (λ filter. Ok (call.VolumeList filter))

abbrev pub event_keys : List FilterKey
event_keys = key.Kind ∷ key.Action ∷ key.Container ∷ key.Image ∷ key.Volume ∷ []

abbrev pub events_call : List ℕ → Result Call Fault
events_call query =
    and_then (time_in (codes "since") query) (λ since.
    and_then (time_in (codes "until") query) (λ until.
    and_then (filters_in event_keys query) (λ filter.
    Ok (call.Events since until filter))))
