-- No request of a drill asks for a stream.
use Rattle.std.proofs.Common.{◌≡◌, ◌<◌, ℕ, Bool, true, false, List, refl}
use Rattle.std.specs.Prelude.{Option, Result, Ok, Err}
use Rattle.std.specs.List.{list_all, range_with_len}
use Rattle.std.specs.Fmt.{digits}
use Rattle.engine_text.specs.declared.call.Call.{Call}
use Rattle.route_laws.specs.Segments.{segments}
use Rattle.http_edge.specs.Message.{Request}
use Rattle.http_edge.specs.Asks.{asks_upgrade}
use Rattle.api_routes.specs.Class.{class_of, or_not_found, or_refusal}
use Rattle.api_routes.specs.Fault.{and_then}
use Rattle.api_routes.specs.Path.{parameter_of, path_of, query_of}
use Rattle.api_routes.specs.RouteClass.{Asked, ask, route_class}
use Rattle.api_routes.specs.Routes.{method_of, route_for}
use Rattle.api_routes.specs.Version.{behind_version}
use Rattle.api_routes.specs.declared.class.Class.{Class}
use Rattle.api_routes.specs.declared.class.Class.TheVariants.{Direct, Ask, Stream}
use Rattle.api_routes.specs.declared.fault.Fault.{Fault}
use Rattle.api_routes.specs.declared.method.Method.{Method}
use Rattle.api_routes.specs.declared.route.Route.{Route}
use Rattle.api_routes.specs.declared.route.Route.TheVariants as to
use Rattle.drill_model.specs.declared.deed.Deed.{Deed}
use Rattle.drill_model.specs.declared.deed.Deed.TheVariants.{Create, Start, Stop, Kill, Pause, Unpause, Restart, Rename, Remove, RemoveByForce, ListAll, Inspect}
use Rattle.drill_model.specs.declared.deed.Program.{Program}
use Rattle.drill_model.proofs.SpellingLemmas.{each}
use Rattle.drill_model.proofs.AskedLemmas.{asked_by, method_by, target_by}

-- it is answered at once, or by its call's reply
abbrev pub IsNoStream : Class → Type 0
IsNoStream (Direct answer) = Unit {0}
IsNoStream (Ask c) = Unit {0}
IsNoStream (Stream c takeover) = ⊥

-- ---- by its route

abbrev gives_none : Route → Bool
gives_none to.Logs = false
gives_none to.Attach = false
gives_none to.ExecStart = false
gives_none to.Events = false
gives_none to.Journal = false
gives_none route = true

by_ask : (read : Result Call Fault) → IsNoStream (or_refusal (ask read))
by_ask (Ok c) = tt
by_ask (Err fault) = tt

by_route : (route : Route) (a : Asked) → gives_none route ≡ true → IsNoStream (or_refusal (route_class route a))
by_route to.Ping a none = tt
by_route to.PingHead a none = tt
by_route to.Version a none = tt
by_route to.Create a none = by_ask _
by_route to.List a none = by_ask _
by_route to.Inspect a none = tt
by_route to.Start a none = tt
by_route to.Stop a none = by_ask _
by_route to.Restart a none = by_ask _
by_route to.Kill a none = by_ask _
by_route to.Pause a none = tt
by_route to.Unpause a none = tt
by_route to.Rename a none = by_ask _
by_route to.Update a none = by_ask _
by_route to.Wait a none = by_ask _
by_route to.Remove a none = by_ask _
by_route to.Logs a none = let never : ⊥ = cc in absurd never
by_route to.Attach a none = let never : ⊥ = cc in absurd never
by_route to.ExecCreate a none = by_ask _
by_route to.ExecStart a none = let never : ⊥ = cc in absurd never
by_route to.ExecInspect a none = tt
by_route to.VolumeList a none = by_ask _
by_route to.VolumeCreate a none = by_ask _
by_route to.VolumeInspect a none = tt
by_route to.VolumeRemove a none = tt
by_route to.Events a none = let never : ⊥ = cc in absurd never
by_route to.Journal a none = let never : ⊥ = cc in absurd never

-- ---- by its target

abbrev leads_to_none : Result Route Fault → Bool
leads_to_none (Ok route) = gives_none route
leads_to_none (Err fault) = true

abbrev route_at : Option Method → Result (List (List ℕ)) Fault → Result Route Fault
route_at method path = and_then path (λ segments. or_not_found (route_for method segments))

by_name : (route : Route) (name : Result (List ℕ) Fault) (query body : List ℕ) (upgrade : Bool) → gives_none route ≡ true
    → IsNoStream (or_refusal (and_then name (λ n. route_class route (record { name = n; query = query; body = body; upgrade = upgrade }))))
by_name route (Ok n) query body upgrade none = by_route route (record { name = n; query = query; body = body; upgrade = upgrade }) none
by_name route (Err fault) query body upgrade none = tt

by_found : (found : Result Route Fault) (name : Result (List ℕ) Fault) (query body : List ℕ) (upgrade : Bool) → leads_to_none found ≡ true
    → IsNoStream (or_refusal (and_then found (λ route. and_then name (λ n. route_class route (record { name = n; query = query; body = body; upgrade = upgrade })))))
by_found (Ok route) name query body upgrade none = by_name route name query body upgrade none
by_found (Err fault) name query body upgrade none = tt

by_path : (method : Option Method) (path : Result (List (List ℕ)) Fault) (query body : List ℕ) (upgrade : Bool) → leads_to_none (route_at method path) ≡ true
    → IsNoStream (or_refusal (and_then path (λ segments. and_then (or_not_found (route_for method segments)) (λ route.
    and_then (parameter_of segments) (λ n. route_class route (record { name = n; query = query; body = body; upgrade = upgrade }))))))
by_path method (Ok segments) query body upgrade none =
    by_found (or_not_found (route_for method segments)) (parameter_of segments) query body upgrade none
by_path method (Err fault) query body upgrade none = tt

-- ---- of a drill

abbrev path_in : List ℕ → Result (List (List ℕ)) Fault
path_in target = behind_version (segments (path_of target))

leads : (deed : Deed) → list_all (λ k. leads_to_none (route_at (method_of (method_by deed)) (path_in (target_by deed k)))) (range_with_len 0 32) ≡ true
unfolding digits
leads Create = refl
leads Start = refl
leads Stop = refl
leads Kill = refl
leads Pause = refl
leads Unpause = refl
leads Restart = refl
leads Rename = refl
leads Remove = refl
leads RemoveByForce = refl
leads ListAll = refl
leads Inspect = refl

by_deed : (deed : Deed) (k : ℕ) → k < 32 → leads_to_none (route_at (method_of (method_by deed)) (path_in (target_by deed k))) ≡ true
by_deed deed k fits = each (λ n. leads_to_none (route_at (method_of (method_by deed)) (path_in (target_by deed n)))) (leads deed) k fits

by_request : (r : Request) → leads_to_none (route_at (method_of r.method) (path_in r.target)) ≡ true → IsNoStream (class_of r)
unfolding class_of
by_request r none = by_path (method_of r.method) (path_in r.target) (query_of r.target) r.body (asks_upgrade r) none

-- each of its requests
pub no_stream : (deed : Deed) (k : ℕ) (program : Program) → k < 32 → IsNoStream (class_of (asked_by deed k program))
no_stream Create k program fits = by_request (asked_by Create k program) (by_deed Create k fits)
no_stream Start k program fits = by_request (asked_by Start k program) (by_deed Start k fits)
no_stream Stop k program fits = by_request (asked_by Stop k program) (by_deed Stop k fits)
no_stream Kill k program fits = by_request (asked_by Kill k program) (by_deed Kill k fits)
no_stream Pause k program fits = by_request (asked_by Pause k program) (by_deed Pause k fits)
no_stream Unpause k program fits = by_request (asked_by Unpause k program) (by_deed Unpause k fits)
no_stream Restart k program fits = by_request (asked_by Restart k program) (by_deed Restart k fits)
no_stream Rename k program fits = by_request (asked_by Rename k program) (by_deed Rename k fits)
no_stream Remove k program fits = by_request (asked_by Remove k program) (by_deed Remove k fits)
no_stream RemoveByForce k program fits = by_request (asked_by RemoveByForce k program) (by_deed RemoveByForce k fits)
no_stream ListAll k program fits = by_request (asked_by ListAll k program) (by_deed ListAll k fits)
no_stream Inspect k program fits = by_request (asked_by Inspect k program) (by_deed Inspect k fits)
