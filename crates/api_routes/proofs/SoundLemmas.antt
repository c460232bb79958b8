-- The call of each class is sound, by its route.
use Rattle.std.proofs.Common.{◌≡◌, ◌==◌, ◌||◌, ℕ, List, [], ◌∷◌, Bool, true, false, cond, codes, unwrap_or, Option, Some, None, Result, Ok, Err, refl, IfOk}
use Rattle.std.specs.Prelude.{IsTrue}
use Rattle.std.specs.List.{list_all}
use Rattle.api_routes.specs.Fault.{and_then}
use Rattle.engine_text.specs.Name.{is_name}
use Rattle.engine_text.specs.declared.call.Call.{Call}
use Rattle.engine_text.specs.declared.call.Call.TheVariants as call
use Rattle.engine_text.specs.declared.call.LogAsk.{LogAsk}
use Rattle.engine_text.specs.declared.filter.FilterKey.{FilterKey}
use Rattle.engine_text.specs.declared.filter.FilterKey.TheVariants as key
use Rattle.engine_text.specs.declared.signal.Signal.{Signal}
use Rattle.api_json.specs.Create.{create_of}
use Rattle.api_json.specs.ExecCreate.{exec_of, exec_start_of}
use Rattle.api_json.specs.VolumeCreate.{volume_of}
use Rattle.api_json.specs.Filters.{filter_of}
use Rattle.engine_text.specs.Soundness.{is_policy, IsSound, is_full, if_given, is_signal, is_seconds, is_limit, is_count, is_time, is_filter, is_list_key, is_event_key, is_volume_key, is_log_ask, far}
use Rattle.api_json.specs.Update.{update_of}
use Rattle.api_routes.proofs.UpdateLemmas.{IsGiven, update_within}
use Rattle.api_routes.proofs.WithinLemmas.{both_true}
use Rattle.api_routes.proofs.CreateLemmas.{IsWithin, create_within, named_within}
use Rattle.api_routes.proofs.BodyLemmas.{IsExec, IsVolume, exec_within, volume_within}
use Rattle.api_routes.proofs.FilterLemmas.{IsFilter, filter_within}
use Rattle.api_routes.specs.Query.{value_or_empty}
use Rattle.api_routes.specs.Keys.{flag, create_name, new_name, signal_in, kill_signal, seconds_in, limit_in, tail_in, condition_in, time_in}
use Rattle.api_routes.specs.Calls.{of_body, filters_in, create_call, list_keys, list_call, stop_call, restart_call, kill_call, rename_call, update_call, wait_call, remove_call, end_of, asked_logs, log_ask, logs_call, exec_create_call, volume_create_call, volume_list_call, event_keys, events_call}
use Rattle.api_routes.specs.RouteClass.{Asked, route_class, ask, in_chunks, exec_start_class}
use Rattle.api_routes.specs.Laws.{OfItsCall}
use Rattle.api_routes.specs.declared.class.Class.{Class}
use Rattle.api_routes.specs.declared.fault.Fault.{Fault}
use Rattle.api_routes.specs.declared.fault.Fault.TheVariants.{NoStream, LinksLeftOut}
use Rattle.api_routes.specs.declared.route.Route.{Route}
use Rattle.api_routes.specs.declared.route.Route.TheVariants as to
use Rattle.api_routes.proofs.StepLemmas.{goes-on, goes-by, from-body}
use Rattle.api_routes.proofs.QueryLemmas.{IfGiven, IsName, IsTime, name-within, new-within, signal-within, seconds-within, limit-within, tail-within, time-within}
use Rattle.api_routes.proofs.ParameterLemmas.{has_name}

abbrev HasSound : Class → Type 0
HasSound class = OfItsCall IsSound class

-- ---- create and list

filters-within : (is_key : FilterKey → Bool) (keys : List FilterKey) (query : List ℕ) → list_all is_key keys ≡ true
    → IfOk (filters_in keys query) (IsFilter is_key)
filters-within is_key keys query h =
    from-body (IsFilter is_key) (filter_of keys (value_or_empty (codes "filters") query)) (filter_within is_key keys (value_or_empty (codes "filters") query) h)

create-sound : (query body : List ℕ) → IfOk (create_call query body) IsSound
create-sound query body =
    goes-on IsWithin IsSound (of_body (create_of None body)) _ (from-body IsWithin (create_of None body) (create_within None body)) (λ spec within.
    goes-on (IfGiven is_name) IsSound (create_name query) _ (name-within query) (λ name is.
    named_within spec name is within))

list-sound : (query : List ℕ) → IfOk (list_call query) IsSound
list-sound query =
    goes-on (IfGiven is_limit) IsSound (limit_in query) _ (limit-within query) (λ limit few.
    goes-on (IsFilter is_list_key) IsSound (filters_in list_keys query) _ (filters-within is_list_key list_keys query refl) (λ filter is.
    both_true (if_given is_limit limit) (is_filter is_list_key filter) few is))

-- ---- calls of a container that the path names

abbrev IsNamed : List ℕ → Type 0
IsNamed name = IsTrue (is_full name)

stop-sound : (name query : List ℕ) → IsNamed name → IfOk (stop_call name query) IsSound
stop-sound name query full =
    goes-on (IfGiven is_seconds) IsSound (seconds_in query) _ (seconds-within query) (λ wait few.
    goes-on (IfGiven is_signal) IsSound (signal_in query) _ (signal-within query) (λ signal is.
    both_true _ (if_given is_signal signal) (both_true (is_full name) (if_given is_seconds wait) full few) is))

restart-sound : (name query : List ℕ) → IsNamed name → IfOk (restart_call name query) IsSound
restart-sound name query full =
    goes-on (IfGiven is_seconds) IsSound (seconds_in query) _ (seconds-within query) (λ wait few.
    goes-on (IfGiven is_signal) IsSound (signal_in query) _ (signal-within query) (λ signal is.
    both_true _ (if_given is_signal signal) (both_true (is_full name) (if_given is_seconds wait) full few) is))

or-kill : (o : Option Signal) → IfGiven is_signal o → IsTrue (is_signal (unwrap_or o kill_signal))
or-kill None h = refl
or-kill (Some signal) h = h

kill-sound : (name query : List ℕ) → IsNamed name → IfOk (kill_call name query) IsSound
kill-sound name query full =
    goes-on (IfGiven is_signal) IsSound (signal_in query) _ (signal-within query) (λ signal is.
    both_true (is_full name) (is_signal (unwrap_or signal kill_signal)) full (or-kill signal is))

rename-sound : (name query : List ℕ) → IsNamed name → IfOk (rename_call name query) IsSound
rename-sound name query full =
    goes-on IsName IsSound (new_name query) _ (new-within query) (λ new is. both_true (is_full name) (is_name new) full is)

wait-sound : (name query : List ℕ) → IsNamed name → IfOk (wait_call name query) IsSound
wait-sound name query full = goes-by IsSound (condition_in query) _ (λ until. full)

remove-sound : (name query : List ℕ) → IsNamed name → IfOk (remove_call name query) IsSound
remove-sound name query full = by (flag (codes "link") query)
  where
    by : (b : Bool) → IfOk (cond b (Err LinksLeftOut) (Ok (call.Remove name (flag (codes "force") query)))) IsSound
    by true = tt
    by false = full

-- ---- logs

ends-within : (o : Option ℕ) → IfGiven is_time o → IsTime (end_of o)
ends-within None h = refl
ends-within (Some moment) h = by (moment == 0)
  where
    by : (b : Bool) → IsTime (cond b far moment)
    by true = refl
    by false = h

begins-within : (o : Option ℕ) → IfGiven is_time o → IsTime (unwrap_or o 0)
begins-within None h = refl
begins-within (Some moment) h = h

abbrev IsLogAsk : LogAsk → Type 0
IsLogAsk asked = IsTrue (is_log_ask asked)

logs-within : (query : List ℕ) → IfOk (log_ask query) IsLogAsk
logs-within query = by (flag (codes "stdout") query || flag (codes "stderr") query) refl
  where
    by : (b : Bool) → (flag (codes "stdout") query || flag (codes "stderr") query) ≡ b
        → IfOk (cond b (and_then (time_in (codes "since") query) (λ since.
        and_then (time_in (codes "until") query) (λ until.
        and_then (tail_in query) (λ tail.
        Ok (asked_logs query since until tail))))) (Err NoStream)) IsLogAsk
    by true e =
        goes-on (IfGiven is_time) IsLogAsk (time_in (codes "since") query) _ (time-within (codes "since") query) (λ since s.
        goes-on (IfGiven is_time) IsLogAsk (time_in (codes "until") query) _ (time-within (codes "until") query) (λ until u.
        goes-on (IfGiven is_count) IsLogAsk (tail_in query) _ (tail-within query) (λ tail t.
        both_true _ (is_time (end_of until)) (both_true _ (is_time (unwrap_or since 0))
        (both_true (flag (codes "stdout") query || flag (codes "stderr") query) (if_given is_count tail) e t) (begins-within since s)) (ends-within until u))))
    by false e = tt

logs-sound : (name query : List ℕ) → IsNamed name → IfOk (logs_call name query) IsSound
logs-sound name query full =
    goes-on IsLogAsk IsSound (log_ask query) _ (logs-within query) (λ asked is. both_true (is_full name) (is_log_ask asked) full is)

-- ---- exec, volumes and events

exec-sound : (name body : List ℕ) → IsNamed name → IfOk (exec_create_call name body) IsSound
exec-sound name body full =
    goes-on IsExec IsSound (of_body (exec_of body)) _ (from-body IsExec (exec_of body) (exec_within body)) (λ exec is.
    both_true (is_full name) (is_full exec.words) full is)

update-sound : (name body : List ℕ) → IsNamed name → IfOk (update_call name body) IsSound
update-sound name body full =
    goes-on IsGiven IsSound (of_body (update_of body)) _ (from-body IsGiven (update_of body) (update_within body)) (λ policy is.
    both_true (is_full name) (if_given is_policy policy) full is)

volume-sound : (body : List ℕ) → IfOk (volume_create_call body) IsSound
volume-sound body =
    goes-on IsVolume IsSound (of_body (volume_of body)) _ (from-body IsVolume (volume_of body) (volume_within body)) (λ volume is. is)

volumes-sound : (query : List ℕ) → IfOk (volume_list_call query) IsSound
volumes-sound query =
    goes-on (IsFilter is_volume_key) IsSound (filters_in (key.Name ∷ []) query) _ (filters-within is_volume_key (key.Name ∷ []) query refl) (λ filter is. is)

events-sound : (query : List ℕ) → IfOk (events_call query) IsSound
events-sound query =
    goes-on (IfGiven is_time) IsSound (time_in (codes "since") query) _ (time-within (codes "since") query) (λ since s.
    goes-on (IfGiven is_time) IsSound (time_in (codes "until") query) _ (time-within (codes "until") query) (λ until u.
    goes-on (IsFilter is_event_key) IsSound (filters_in event_keys query) _ (filters-within is_event_key event_keys query refl) (λ filter is.
    both_true _ (is_filter is_event_key filter) (both_true (if_given is_time since) (if_given is_time until) s u) is)))

-- ---- each route

asks : (e : Result Call Fault) → IfOk e IsSound → IfOk (ask e) HasSound
asks (Ok c) h = h
asks (Err fault) h = tt

chunks : (e : Result Call Fault) → IfOk e IsSound → IfOk (in_chunks e) HasSound
chunks (Ok c) h = h
chunks (Err fault) h = tt

exec-starts : (id : List ℕ) (upgrade detach : Bool) → IsNamed id → HasSound (exec_start_class id upgrade detach)
exec-starts id upgrade true full = full
exec-starts id upgrade false full = full

pub route-sound : (route : Route) (a : Asked) → (has_name route ≡ true → IsNamed a.name) → IfOk (route_class route a) HasSound
route-sound to.Ping a full = tt
route-sound to.PingHead a full = tt
route-sound to.Version a full = tt
route-sound to.Create a full = asks (create_call a.query a.body) (create-sound a.query a.body)
route-sound to.List a full = asks (list_call a.query) (list-sound a.query)
route-sound to.Inspect a full = full refl
route-sound to.Start a full = full refl
route-sound to.Stop a full = asks (stop_call a.name a.query) (stop-sound a.name a.query (full refl))
route-sound to.Restart a full = asks (restart_call a.name a.query) (restart-sound a.name a.query (full refl))
route-sound to.Kill a full = asks (kill_call a.name a.query) (kill-sound a.name a.query (full refl))
route-sound to.Pause a full = full refl
route-sound to.Unpause a full = full refl
route-sound to.Rename a full = asks (rename_call a.name a.query) (rename-sound a.name a.query (full refl))
route-sound to.Update a full = asks (update_call a.name a.body) (update-sound a.name a.body (full refl))
route-sound to.Wait a full = asks (wait_call a.name a.query) (wait-sound a.name a.query (full refl))
route-sound to.Remove a full = asks (remove_call a.name a.query) (remove-sound a.name a.query (full refl))
route-sound to.Logs a full = chunks (logs_call a.name a.query) (logs-sound a.name a.query (full refl))
route-sound to.Attach a full = full refl
route-sound to.ExecCreate a full = asks (exec_create_call a.name a.body) (exec-sound a.name a.body (full refl))
route-sound to.ExecStart a full =
    goes-by HasSound (of_body (exec_start_of a.body)) (λ detach. Ok (exec_start_class a.name a.upgrade detach))
    (λ detach. exec-starts a.name a.upgrade detach (full refl))
route-sound to.ExecInspect a full = full refl
route-sound to.VolumeList a full = asks (volume_list_call a.query) (volumes-sound a.query)
route-sound to.VolumeCreate a full = asks (volume_create_call a.body) (volume-sound a.body)
route-sound to.VolumeInspect a full = full refl
route-sound to.VolumeRemove a full = full refl
route-sound to.Events a full = chunks (events_call a.query) (events-sound a.query)
route-sound to.Journal a full = refl
