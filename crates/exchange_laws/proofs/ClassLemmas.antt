-- What the class of a request tells of its call: it is sound, one that is answered whole gives no stream, a stream in chunks is a log's,
-- one of events or the journal's, and one that takes the connection over an attach's or an exec's.
use Rattle.std.proofs.Common.{◌≡◌, ℕ, List, [], ◌∷◌, Bool, true, false, cond, None, Result, Ok, Err, IfOk, refl, subst, codes}
use Rattle.std.specs.Prelude.{IsFalse}
use Rattle.engine_text.specs.declared.call.Call.{Call}
use Rattle.engine_text.specs.declared.call.Call.TheVariants as call
use Rattle.engine_text.specs.declared.filter.FilterKey.TheVariants as key
use Rattle.engine_text.specs.Soundness.{IsSound}
use Rattle.http_edge.specs.Message.{Request}
use Rattle.api_routes.specs.Keys.{flag, create_name, new_name, signal_in, seconds_in, limit_in, condition_in, time_in}
use Rattle.api_routes.specs.Calls.{of_body, create_call, list_call, stop_call, restart_call, kill_call, rename_call, update_call, wait_call, remove_call, logs_call, log_ask, attach_ask, exec_create_call, volume_create_call, volume_list_call, events_call, filters_in, list_keys, event_keys}
use Rattle.api_routes.specs.RouteClass.{Asked, route_class, ask, in_chunks, takeover, exec_start_class}
use Rattle.api_json.specs.ExecCreate.{exec_of, exec_start_of}
use Rattle.api_json.specs.Create.{create_of}
use Rattle.api_json.specs.Update.{update_of}
use Rattle.api_json.specs.VolumeCreate.{volume_of}
use Rattle.machine_model.specs.Statuses.{ends_ticket, is_feed}
use Rattle.api_routes.specs.declared.fault.Fault.TheVariants.{LinksLeftOut}
use Rattle.api_routes.specs.Class.{class_of}
use Rattle.api_routes.specs.Laws.{OfItsCall}
use Rattle.api_routes.specs.declared.class.Class.{Class}
use Rattle.api_routes.specs.declared.class.Class.TheVariants.{Direct, Ask, Stream}
use Rattle.api_routes.specs.declared.class.Takeover.{Takeover}
use Rattle.api_routes.specs.declared.class.Takeover.TheVariants as takes
use Rattle.api_routes.specs.declared.fault.Fault.{Fault}
use Rattle.api_routes.specs.declared.route.Route.{Route}
use Rattle.api_routes.specs.declared.route.Route.TheVariants as to
use Rattle.api_routes.proofs.ClassLemmas.{class-by}
use Rattle.api_routes.proofs.StepLemmas.{goes-on, goes-by}
use Rattle.api_routes.proofs.CallLemmas.{class-sound}
use Rattle.daemon_core.specs.Whole.{gives_stream}
use Rattle.exchange_laws.specs.Kinds.{IsAttaching, IsStreamed}

-- ---- sound

pub asked_sound : (r : Request) (c : Call) → class_of r ≡ Ask c → IsSound c
asked_sound r c h = subst (OfItsCall IsSound) h (class-sound r)

pub streamed_sound : (r : Request) (c : Call) (t : Takeover) → class_of r ≡ Stream c t → IsSound c
streamed_sound r c t h = subst (OfItsCall IsSound) h (class-sound r)

-- ---- no end of a ticket, no feed, and a stream only as it is asked for

abbrev IsWhole : Call → Type 0
IsWhole c = IsFalse (ends_ticket c) × IsFalse (gives_stream c) × IsFalse (is_feed c)

-- in chunks, or over the connection
abbrev IsStream : Call → Takeover → Type 0
IsStream c takes.None = IsStreamed c
IsStream c takes.Plain = IsAttaching c
IsStream c takes.Upgrade = IsAttaching c

abbrev AsksSo : Class → Type 0
AsksSo (Ask c) = IsWhole c
AsksSo (Stream c t) = IsStream c t
AsksSo (Direct answer) = Unit {0}

asks_whole : (e : Result Call Fault) → IfOk e IsWhole → IfOk (ask e) AsksSo
asks_whole e h = goes-on IsWhole AsksSo e (λ c. Ok (Ask c)) h (λ c whole. whole)

streams : (e : Result Call Fault) → IfOk e IsStreamed → IfOk (in_chunks e) AsksSo
streams e h = goes-on IsStreamed AsksSo e (λ c. Ok (Stream c takes.None)) h (λ c streamed. streamed)

over : (upgrade : Bool) (c : Call) → IsAttaching c → IsStream c (takeover upgrade)
over true c h = h
over false c h = h

removes : (b : Bool) (name query : List ℕ) → IfOk (cond b (Err LinksLeftOut) (Ok (call.Remove name (flag (codes "force") query)))) IsWhole
removes true name query = tt
removes false name query = (refl, refl, refl)

starts : (detach : Bool) (name : List ℕ) (upgrade : Bool) → AsksSo (exec_start_class name upgrade detach)
starts true name upgrade = (refl, refl, refl)
starts false name upgrade = over upgrade (call.ExecStart name false) tt

route_so : (route : Route) (a : Asked) → IfOk (route_class route a) AsksSo
route_so to.Ping a = tt
route_so to.PingHead a = tt
route_so to.Version a = tt
route_so to.Create a = asks_whole (create_call a.query a.body) (goes-by IsWhole (of_body (create_of None a.body)) _ (λ spec. goes-by IsWhole (create_name a.query) _ (λ name. (refl, refl, refl))))
route_so to.List a = asks_whole (list_call a.query) (goes-by IsWhole (limit_in a.query) _ (λ limit. goes-by IsWhole (filters_in list_keys a.query) _ (λ filter. (refl, refl, refl))))
route_so to.Inspect a = (refl, refl, refl)
route_so to.Start a = (refl, refl, refl)
route_so to.Stop a = asks_whole (stop_call a.name a.query) (goes-by IsWhole (seconds_in a.query) _ (λ wait. goes-by IsWhole (signal_in a.query) _ (λ signal. (refl, refl, refl))))
route_so to.Restart a = asks_whole (restart_call a.name a.query) (goes-by IsWhole (seconds_in a.query) _ (λ wait. goes-by IsWhole (signal_in a.query) _ (λ signal. (refl, refl, refl))))
route_so to.Kill a = asks_whole (kill_call a.name a.query) (goes-by IsWhole (signal_in a.query) _ (λ signal. (refl, refl, refl)))
route_so to.Pause a = (refl, refl, refl)
route_so to.Unpause a = (refl, refl, refl)
route_so to.Rename a = asks_whole (rename_call a.name a.query) (goes-by IsWhole (new_name a.query) _ (λ name. (refl, refl, refl)))
route_so to.Update a = asks_whole (update_call a.name a.body) (goes-by IsWhole (of_body (update_of a.body)) _ (λ policy. (refl, refl, refl)))
route_so to.Wait a = asks_whole (wait_call a.name a.query) (goes-by IsWhole (condition_in a.query) _ (λ until. (refl, refl, refl)))
route_so to.Remove a = asks_whole (remove_call a.name a.query) (removes (flag (codes "link") a.query) a.name a.query)
route_so to.Logs a = streams (logs_call a.name a.query) (goes-by IsStreamed (log_ask a.query) _ (λ ask. tt))
route_so to.Attach a = over a.upgrade (call.Attach a.name (attach_ask a.query)) tt
route_so to.ExecCreate a = asks_whole (exec_create_call a.name a.body) (goes-by IsWhole (of_body (exec_of a.body)) _ (λ spec. (refl, refl, refl)))
route_so to.ExecStart a = goes-by AsksSo (of_body (exec_start_of a.body)) _ (λ detach. starts detach a.name a.upgrade)
route_so to.ExecInspect a = (refl, refl, refl)
route_so to.VolumeList a = asks_whole (volume_list_call a.query) (goes-by IsWhole (filters_in (key.Name ∷ []) a.query) _ (λ filter. (refl, refl, refl)))
route_so to.VolumeCreate a = asks_whole (volume_create_call a.body) (goes-by IsWhole (of_body (volume_of a.body)) _ (λ spec. (refl, refl, refl)))
route_so to.VolumeInspect a = (refl, refl, refl)
route_so to.VolumeRemove a = (refl, refl, refl)
route_so to.Events a = streams (events_call a.query)
    (goes-by IsStreamed (time_in (codes "since") a.query) _ (λ since. goes-by IsStreamed (time_in (codes "until") a.query) _
    (λ until. goes-by IsStreamed (filters_in event_keys a.query) _ (λ filter. tt))))
route_so to.Journal a = tt

class_so : (r : Request) → AsksSo (class_of r)
class_so r =
    class-by r AsksSo (λ fault. tt) (λ class read. subst (λ e. IfOk e AsksSo) read.reads (route_so read.route _))

-- no request asks for the end of a ticket
pub asked_kind : (r : Request) (c : Call) → class_of r ≡ Ask c → IsFalse (ends_ticket c)
asked_kind r c h =
    let whole : IsWhole c = subst AsksSo h (class_so r) in whole.0

-- nor, with a whole answer, for a stream
pub asked_whole : (r : Request) (c : Call) → class_of r ≡ Ask c → IsFalse (gives_stream c)
asked_whole r c h =
    let whole : IsWhole c = subst AsksSo h (class_so r) in whole.1

-- nor for a feed
pub asked_feeds : (r : Request) (c : Call) → class_of r ≡ Ask c → IsFalse (is_feed c)
asked_feeds r c h =
    let whole : IsWhole c = subst AsksSo h (class_so r) in whole.2

-- ---- streams

pub streamed_kind : (r : Request) (c : Call) → class_of r ≡ Stream c takes.None → IsStreamed c
streamed_kind r c h = subst AsksSo h (class_so r)

pub attaching_kind : (r : Request) (c : Call) (upgrade : Bool) → class_of r ≡ Stream c (takeover upgrade) → IsAttaching c
attaching_kind r c true h = subst AsksSo h (class_so r)
attaching_kind r c false h = subst AsksSo h (class_so r)
