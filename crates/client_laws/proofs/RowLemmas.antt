-- The rows of the daemon's table that the client's paths with a name fit.
use Rattle.std.proofs.Common.{◌≡◌, ℕ, Bool, true, false, List, [], ◌∷◌, map, All, cond, ◌&&◌, codes, IsUtf8, Option, Some, refl, ap, ◌∙◌}
use Rattle.percent_encoding.proofs.PercentLemmas.{IsByte}
use Rattle.http_edge.specs.Asks.{asks_upgrade}
use Rattle.matchit.specs.Seek.{same_text}
use Rattle.api_routes.specs.Class.{class_of, or_refusal}
use Rattle.api_routes.specs.Routes.{method_of, route_for}
use Rattle.api_routes.specs.declared.method.Method.TheVariants.{Get, Post, Delete}
use Rattle.api_routes.specs.declared.route.Route.{Route}
use Rattle.api_routes.specs.declared.route.Route.TheVariants as to
use Rattle.client_model.specs.declared.manner.Manner.{Manner}
use Rattle.client_model.specs.Requests.{Query, request_of}
use Rattle.client_laws.specs.Classes.{by_name}
use Rattle.client_laws.proofs.EscapeLemmas.{escaped}
use Rattle.client_laws.proofs.RequestLemmas.{read_by, class-routed, IsRow, routed-by-name, routed-by-word}

-- the class of a request by a name in its path
pub named-class : (method : List ℕ) (manner : Manner) (front : List ℕ) (behind : List (List ℕ)) (query : Query) (body : List ℕ) (route : Route) (name : List ℕ)
    → IsRow (method_of method) (escaped front) (map escaped behind) route → All IsByte name
    → class_of (request_of method manner (front ∷ name ∷ behind) query body)
    ≡ or_refusal (by_name name (read_by query body (asks_upgrade (request_of method manner (front ∷ name ∷ behind) query body)) route name))
named-class method manner front behind query body route name row bytes =
    let path = front ∷ name ∷ behind in
    class-routed method manner path query body
    ∙ ap or_refusal (routed-by-name (method_of method) (escaped front) (map escaped behind) route name
    (read_by query body (asks_upgrade (request_of method manner path query body))) row bytes)

-- the class of a request whose path has words of the table alone
pub worded-class : (method : List ℕ) (manner : Manner) (front word : List ℕ) (query : Query) (body : List ℕ) (route : Route)
    → route_for (method_of method) (escaped front ∷ escaped word ∷ []) ≡ Some route → IsUtf8 word
    → class_of (request_of method manner (front ∷ word ∷ []) query body)
    ≡ or_refusal (read_by query body (asks_upgrade (request_of method manner (front ∷ word ∷ []) query body)) route word)
worded-class method manner front word query body route found utf8 =
    let path = front ∷ word ∷ [] in
    class-routed method manner path query body
    ∙ ap or_refusal (routed-by-word (method_of method) (escaped front) [] route word
    (read_by query body (asks_upgrade (request_of method manner path query body))) found utf8)

-- a row that is shorter fits no more
shorter : (v : Bool) (to : Route) (o : Option Route) → cond (v && false) (Some to) o ≡ o
shorter true to o = refl
shorter false to o = refl

abbrev containers : List ℕ
containers = codes "containers"

abbrev create_word : ℕ → List ℕ → Bool
create_word c rest = same_text (codes "create") (c ∷ rest)

abbrev json_word : ℕ → List ℕ → Bool
json_word c rest = same_text (codes "json") (c ∷ rest)

pub start-row : IsRow (Some Post) containers (codes "start" ∷ []) to.Start
start-row = record { none = refl; some = λ c rest. shorter (create_word c rest) to.Create (Some to.Start) }

pub stop-row : IsRow (Some Post) containers (codes "stop" ∷ []) to.Stop
stop-row = record { none = refl; some = λ c rest. shorter (create_word c rest) to.Create (Some to.Stop) }

pub restart-row : IsRow (Some Post) containers (codes "restart" ∷ []) to.Restart
restart-row = record { none = refl; some = λ c rest. shorter (create_word c rest) to.Create (Some to.Restart) }

pub kill-row : IsRow (Some Post) containers (codes "kill" ∷ []) to.Kill
kill-row = record { none = refl; some = λ c rest. shorter (create_word c rest) to.Create (Some to.Kill) }

pub pause-row : IsRow (Some Post) containers (codes "pause" ∷ []) to.Pause
pause-row = record { none = refl; some = λ c rest. shorter (create_word c rest) to.Create (Some to.Pause) }

pub unpause-row : IsRow (Some Post) containers (codes "unpause" ∷ []) to.Unpause
unpause-row = record { none = refl; some = λ c rest. shorter (create_word c rest) to.Create (Some to.Unpause) }

pub rename-row : IsRow (Some Post) containers (codes "rename" ∷ []) to.Rename
rename-row = record { none = refl; some = λ c rest. shorter (create_word c rest) to.Create (Some to.Rename) }

pub update-row : IsRow (Some Post) containers (codes "update" ∷ []) to.Update
update-row = record { none = refl; some = λ c rest. shorter (create_word c rest) to.Create (Some to.Update) }

pub wait-row : IsRow (Some Post) containers (codes "wait" ∷ []) to.Wait
wait-row = record { none = refl; some = λ c rest. shorter (create_word c rest) to.Create (Some to.Wait) }

pub attach-row : IsRow (Some Post) containers (codes "attach" ∷ []) to.Attach
attach-row = record { none = refl; some = λ c rest. shorter (create_word c rest) to.Create (Some to.Attach) }

pub exec-create-row : IsRow (Some Post) containers (codes "exec" ∷ []) to.ExecCreate
exec-create-row = record { none = refl; some = λ c rest. shorter (create_word c rest) to.Create (Some to.ExecCreate) }

pub exec-start-row : IsRow (Some Post) (codes "exec") (codes "start" ∷ []) to.ExecStart
exec-start-row = record { none = refl; some = λ c rest. refl }

pub exec-inspect-row : IsRow (Some Get) (codes "exec") (codes "json" ∷ []) to.ExecInspect
exec-inspect-row = record { none = refl; some = λ c rest. refl }

pub inspect-row : IsRow (Some Get) containers (codes "json" ∷ []) to.Inspect
inspect-row = record { none = refl; some = λ c rest. shorter (json_word c rest) to.List (Some to.Inspect) }

pub logs-row : IsRow (Some Get) containers (codes "logs" ∷ []) to.Logs
logs-row = record { none = refl; some = λ c rest. shorter (json_word c rest) to.List (Some to.Logs) }

pub remove-row : IsRow (Some Delete) containers [] to.Remove
remove-row = record { none = refl; some = λ c rest. refl }

pub volume-inspect-row : IsRow (Some Get) (codes "volumes") [] to.VolumeInspect
volume-inspect-row = record { none = refl; some = λ c rest. refl }

pub volume-remove-row : IsRow (Some Delete) (codes "volumes") [] to.VolumeRemove
volume-remove-row = record { none = refl; some = λ c rest. refl }
