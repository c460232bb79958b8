-- What the class of a request tells of its call.
use Rattle.std.proofs.Common.{◌≡◌, ℕ, List, Bool, Option, Some, None, Result, Ok, Err, refl, ap}
use Rattle.http_edge.specs.Message.{Request}
use Rattle.http_edge.specs.Asks.{asks_upgrade}
use Rattle.route_laws.specs.Segments.{segments}
use Rattle.api_routes.specs.Fault.{and_then}
use Rattle.api_routes.specs.Routes.{method_of, route_for}
use Rattle.api_routes.specs.Path.{path_of, query_of, parameter_of}
use Rattle.api_routes.specs.Version.{behind_version}
use Rattle.api_routes.specs.RouteClass.{route_class}
use Rattle.api_routes.specs.Class.{class_of, read_class, or_not_found, refusal, or_refusal}
use Rattle.api_routes.specs.declared.class.Class.{Class}
use Rattle.api_routes.specs.declared.fault.Fault.{Fault}
use Rattle.api_routes.specs.declared.route.Route.{Route}

-- what was read went on well
pub went-on : {A B : Type 0} (read : Result A Fault) (next : A → Result B Fault) (y : B) → and_then read next ≡ Ok y
    → (x : A) × (read ≡ Ok x) × (next x ≡ Ok y)
went-on (Ok x) next y h = (x, refl, h)
went-on (Err fault) next y h = cc

-- what was read well
abbrev read-well : Class → Result Class Fault
read-well class = Ok class

pub same-class : (x y : Class) → read-well x ≡ read-well y → x ≡ y
same-class x y h = cc

-- the route that the request fits, its path's parameter, and what the route reads
pub record IsReadAs (m t b : List ℕ) (u : Bool) (read : Class) : Type 0 where
  pub path : List (List ℕ)
  pub route : Route
  pub name : List ℕ
  pub behind : behind_version (segments (path_of t)) ≡ Ok path
  pub fits : route_for (method_of m) path ≡ Some route
  pub named : parameter_of path ≡ Ok name
  pub reads : route_class route (record { name = name; query = query_of t; body = b; upgrade = u }) ≡ Ok read

found : (o : Option Route) (route : Route) → or_not_found o ≡ Ok route → o ≡ Some route
found (Some x) route h = let same : x ≡ route = cc in ap Some same
found None route h = let no : ⊥ = cc in absurd no

-- what was read is what the route that the request fits reads
read-last : (m t b : List ℕ) (u : Bool) (class : Class) → read_class m t b u ≡ Ok class → IsReadAs m t b u class
read-last m t b u class h =
    let path = went-on (behind_version (segments (path_of t))) _ class h in
    let route = went-on (or_not_found (route_for (method_of m) path.0)) _ class path.2 in
    let name = went-on (parameter_of path.0) _ class route.2 in
    record {
      path = path.0;
      route = route.0;
      name = name.0;
      behind = path.1;
      fits = found (route_for (method_of m) path.0) route.0 route.1;
      named = name.1;
      reads = name.2;
    }

-- the class of a request tells a fault, or is what its route reads
pub class-by : (r : Request) (P : Class → Type 0) → ((fault : Fault) → P (refusal fault))
    → ((class : Class) → IsReadAs r.method r.target r.body (asks_upgrade r) class → P class) → P (class_of r)
unfolding class_of
class-by r P refused read = by (read_class r.method r.target r.body (asks_upgrade r)) refl
  where
    by : (result : Result Class Fault) → read_class r.method r.target r.body (asks_upgrade r) ≡ result → P (or_refusal result)
    by (Ok class) e = read class (read-last r.method r.target r.body (asks_upgrade r) class e)
    by (Err fault) e = refused fault
