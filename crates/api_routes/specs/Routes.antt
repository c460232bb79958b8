-- The table of routes by method (Docker Engine API v1.43, the operations of containers, exec, volumes and system; own: engine/journal).
use Rattle.std.specs.Prelude.{◌≡◌, ℕ, List, [], ◌∷◌, Option, Some, None, codes, if◌then◌else◌}
use Rattle.engine_text.specs.Texts.{same_bytes}
use Rattle.route_laws.specs.Segments.{Segment, Fits, HasRow, Answers, row_for}
use Rattle.route_laws.specs.Segments.Segment.{text, parameter}
use Rattle.api_routes.specs.declared.route.Route.{Route}
use Rattle.api_routes.specs.declared.route.Route.TheVariants as to
use Rattle.api_routes.specs.declared.method.Method.{Method}
use Rattle.api_routes.specs.declared.method.Method.TheVariants.{Get, Head, Post, Delete}

-- rows of segments, each with its route
abbrev pub Table : Type 0
Table = List (List Segment × Route)

-- below a container, by its reference
abbrev pub of_container : List ℕ → List Segment
of_container action = text (codes "containers") ∷ parameter ∷ text action ∷ []

abbrev pub get_table : Table
get_table =
    (text (codes "_ping") ∷ [], to.Ping)
    ∷ (text (codes "version") ∷ [], to.Version)
    ∷ (text (codes "containers") ∷ text (codes "json") ∷ [], to.List)
    ∷ (of_container (codes "json"), to.Inspect)
    ∷ (of_container (codes "logs"), to.Logs)
    ∷ (text (codes "exec") ∷ parameter ∷ text (codes "json") ∷ [], to.ExecInspect)
    ∷ (text (codes "volumes") ∷ [], to.VolumeList)
    ∷ (text (codes "volumes") ∷ parameter ∷ [], to.VolumeInspect)
    ∷ (text (codes "events") ∷ [], to.Events)
    ∷ (text (codes "engine") ∷ text (codes "journal") ∷ [], to.Journal) ∷ []

abbrev pub head_table : Table
head_table = (text (codes "_ping") ∷ [], to.PingHead) ∷ []

abbrev pub post_table : Table
post_table =
    (text (codes "containers") ∷ text (codes "create") ∷ [], to.Create)
    ∷ (of_container (codes "start"), to.Start)
    ∷ (of_container (codes "stop"), to.Stop)
    ∷ (of_container (codes "restart"), to.Restart)
    ∷ (of_container (codes "kill"), to.Kill)
    ∷ (of_container (codes "pause"), to.Pause)
    ∷ (of_container (codes "unpause"), to.Unpause)
    ∷ (of_container (codes "rename"), to.Rename)
    ∷ (of_container (codes "update"), to.Update)
    ∷ (of_container (codes "wait"), to.Wait)
    ∷ (of_container (codes "attach"), to.Attach)
    ∷ (of_container (codes "exec"), to.ExecCreate)
    ∷ (text (codes "exec") ∷ parameter ∷ text (codes "start") ∷ [], to.ExecStart)
    ∷ (text (codes "volumes") ∷ text (codes "create") ∷ [], to.VolumeCreate) ∷ []

abbrev pub delete_table : Table
delete_table =
    (text (codes "containers") ∷ parameter ∷ [], to.Remove)
    ∷ (text (codes "volumes") ∷ parameter ∷ [], to.VolumeRemove) ∷ []

abbrev pub table_of : Method → Table
table_of Get = get_table
table_of Head = head_table
table_of Post = post_table
table_of Delete = delete_table

-- the method of its name, if it has routes
abbrev pub method_of : List ℕ → Option Method
method_of name =
    if same_bytes name (codes "GET") then Some Get
    else if same_bytes name (codes "HEAD") then Some Head
    else if same_bytes name (codes "POST") then Some Post
    else if same_bytes name (codes "DELETE") then Some Delete
    else None

-- the route that a method's segments fit
abbrev pub route_for : Option Method → List (List ℕ) → Option Route
route_for None segments = None
route_for (Some method) segments = row_for (table_of method) segments

-- the route that a method's segments fit is given, none is given only where none fits, and no other fits
abbrev pub OneRouteFits : Type 0
OneRouteFits = (m : Method) (ss : List (List ℕ)) → Answers (table_of m) ss (row_for (table_of m) ss)
    × ((r : List Segment) (to : Route) → HasRow r to (table_of m) → Fits r ss → row_for (table_of m) ss ≡ Some to)
