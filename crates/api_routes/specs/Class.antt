-- The class of a request: what answers it (Docker Engine API v1.43; own: the order of refusals).
use Rattle.std.specs.Prelude.{ℕ, List, Bool, Option, Some, None, Result, Ok, Err}
use Rattle.route_laws.specs.Segments.{segments}
use Rattle.http_edge.specs.Message.{Request}
use Rattle.http_edge.specs.Asks.{asks_upgrade}
use Rattle.api_routes.specs.Routes.{method_of, route_for}
use Rattle.api_routes.specs.Fault.{and_then, status_of, message_of}
use Rattle.api_routes.specs.Path.{path_of, query_of, parameter_of}
use Rattle.api_routes.specs.Version.{behind_version}
use Rattle.api_routes.specs.RouteClass.{route_class}
use Rattle.api_routes.specs.declared.class.Class.{Class}
use Rattle.api_routes.specs.declared.class.Class.TheVariants.{Direct, Ask, Stream}
use Rattle.api_routes.specs.declared.class.DirectKind.TheVariants.{Message}
use Rattle.api_routes.specs.declared.fault.Fault.{Fault}
use Rattle.api_routes.specs.declared.fault.Fault.TheVariants.{PageNotFound}
use Rattle.api_routes.specs.declared.route.Route.{Route}

-- a route, or the fault that none fits
abbrev pub or_not_found : Option Route → Result Route Fault
or_not_found None = Err PageNotFound
or_not_found (Some route) = Ok route

-- a request's version, then its route, the path's parameter, and what the route reads
abbrev pub read_class : List ℕ → List ℕ → List ℕ → Bool → Result Class Fault
read_class method target body upgrade =
    and_then (behind_version (segments (path_of target))) (λ path.
    and_then (or_not_found (route_for (method_of method) path)) (λ route.
    and_then (parameter_of path) (λ name.
    route_class route (record { name = name; query = query_of target; body = body; upgrade = upgrade }))))

-- the answer that tells a fault
abbrev pub refusal : Fault → Class
refusal fault = Direct (record { status = status_of fault; text = message_of fault; kind = Message })

-- the class that was read, or the answer that tells the fault
abbrev pub or_refusal : Result Class Fault → Class
or_refusal (Ok class) = class
or_refusal (Err fault) = refusal fault

unfoldable pub class_of : Request → Class
class_of r = or_refusal (read_class r.method r.target r.body (asks_upgrade r))
