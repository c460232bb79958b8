-- The class of each route's request (Docker Engine API v1.43, the operations by route; own: JournalRead).
use Rattle.std.specs.Prelude.{ℕ, List, Bool, true, false, codes, if◌then◌else◌, Result, Ok}
use Rattle.engine_text.specs.declared.call.Call.{Call}
use Rattle.engine_text.specs.declared.call.Call.TheVariants as call
use Rattle.api_json.specs.ExecCreate.{exec_start_of}
use Rattle.api_routes.specs.Fault.{and_then}
use Rattle.api_routes.specs.Calls.{of_body, create_call, list_call, stop_call, restart_call, kill_call, rename_call, update_call, wait_call, remove_call, logs_call, attach_ask, exec_create_call, volume_create_call, volume_list_call, events_call}
use Rattle.api_routes.specs.declared.class.Class.{Class}
use Rattle.api_routes.specs.declared.class.Class.TheVariants.{Direct, Ask, Stream}
use Rattle.api_routes.specs.declared.class.DirectKind.{DirectKind}
use Rattle.api_routes.specs.declared.class.DirectKind.TheVariants.{Json, Plain}
use Rattle.api_routes.specs.declared.class.Takeover.{Takeover}
use Rattle.api_routes.specs.declared.class.Takeover.TheVariants as takes
use Rattle.api_routes.specs.declared.fault.Fault.{Fault}
use Rattle.api_routes.specs.declared.route.Route.{Route}
use Rattle.api_routes.specs.declared.route.Route.TheVariants as to

-- what a route's request says: the text of the path's parameter, the query, the body, and whether it asks to upgrade
pub record Asked : Type 0 where
  pub name : List ℕ
  pub query : List ℕ
  pub body : List ℕ
  pub upgrade : Bool

-- a fixed answer
abbrev pub fixed : List ℕ → DirectKind → Class
fixed text kind = Direct (record { status = 200; text = text; kind = kind })

abbrev pub version_body : List ℕ
version_body = codes "{\"ApiVersion\":\"1.43\",\"Arch\":\"amd64\",\"MinAPIVersion\":\"1.24\",\"Os\":\"linux\",\"Version\":\"1.0.0\"}"

-- a call that its reply answers
abbrev pub ask : Result Call Fault → Result Class Fault
ask read = and_then read (λ c. Ok (Ask c))

-- a call whose reply is a stream in chunks
abbrev pub in_chunks : Result Call Fault → Result Class Fault
in_chunks read = and_then read (λ c. Ok (Stream c takes.None))

-- how a stream takes its connection over
abbrev pub takeover : Bool → Takeover
takeover upgrade = if upgrade then takes.Upgrade else takes.Plain

-- a detached exec is only answered
abbrev pub exec_start_class : List ℕ → Bool → Bool → Class
exec_start_class id upgrade detach =
    if detach then Ask (call.ExecStart id true) else Stream (call.ExecStart id false) (takeover upgrade)

-- the class of a route's request, or its first fault: of the body, and then of the query's keys in the order of the route's list
abbrev pub route_class : Route → Asked → Result Class Fault
route_class to.Ping a = Ok (fixed (codes "OK") Plain)
route_class to.PingHead a = Ok (fixed (codes "OK") Plain)
route_class to.Version a = Ok (fixed version_body Json)
route_class to.Create a = ask (create_call a.query a.body)
route_class to.List a = ask (list_call a.query)
route_class to.Inspect a = Ok (Ask (call.Inspect a.name))
route_class to.Start a = Ok (Ask (call.Start a.name))
route_class to.Stop a = ask (stop_call a.name a.query)
route_class to.Restart a = ask (restart_call a.name a.query)
route_class to.Kill a = ask (kill_call a.name a.query)
route_class to.Pause a = Ok (Ask (call.Pause a.name))
route_class to.Unpause a = Ok (Ask (call.Unpause a.name))
route_class to.Rename a = ask (rename_call a.name a.query)
route_class to.Update a = ask (update_call a.name a.body)
route_class to.Wait a = ask (wait_call a.name a.query)
route_class to.Remove a = ask (remove_call a.name a.query)
route_class to.Logs a = in_chunks (logs_call a.name a.query)
route_class to.Attach a = Ok (Stream (call.Attach a.name (attach_ask a.query)) (takeover a.upgrade))
route_class to.ExecCreate a = ask (exec_create_call a.name a.body)
route_class to.ExecStart a = and_then (of_body (exec_start_of a.body)) (λ detach. Ok (exec_start_class a.name a.upgrade detach))
route_class to.ExecInspect a = Ok (Ask (call.ExecInspect a.name))
route_class to.VolumeList a = ask (volume_list_call a.query)
route_class to.VolumeCreate a = ask (volume_create_call a.body)
route_class to.VolumeInspect a = Ok (Ask (call.VolumeInspect a.name))
route_class to.VolumeRemove a = Ok (Ask (call.VolumeRemove a.name))
route_class to.Events a = in_chunks (events_call a.query)
route_class to.Journal a = Ok (Stream call.JournalRead takes.None)
