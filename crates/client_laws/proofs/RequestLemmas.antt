-- The class of a request by its route, its path's parameter, its query and its body.
use Rattle.std.proofs.Common.{◌≡◌, ℕ, Bool, true, false, List, [], ◌∷◌, ◌++◌, map, All, cond, codes, IsUtf8, Option, Some, None, Ok, Err, refl, ap, ◌∙◌}
use Rattle.std.specs.Str.{is_utf8}
use Rattle.std.proofs.lemmas.Str.{is_utf8-from_IsUtf8}
use Rattle.percent_encoding.proofs.PercentLemmas.{IsByte}
use Rattle.http_edge.specs.Asks.{asks_upgrade}
use Rattle.route_laws.specs.Segments.{segments}
use Rattle.api_routes.specs.Fault.{and_then}
use Rattle.api_routes.specs.Routes.{method_of, route_for}
use Rattle.api_routes.specs.Path.{query_of, segment_text, parameter_of}
use Rattle.api_routes.specs.Version.{behind_version}
use Rattle.api_routes.specs.RouteClass.{route_class}
use Rattle.api_routes.specs.Class.{class_of, or_not_found, or_refusal}
use Rattle.api_routes.specs.declared.fault.Fault.TheVariants.{BadPath}
use Rattle.api_routes.specs.declared.method.Method.{Method}
use Rattle.api_routes.specs.declared.route.Route.{Route}
use Rattle.client_model.specs.declared.manner.Manner.{Manner}
use Rattle.client_model.specs.Requests.{path_text, query_text, Query, request_of}
use Rattle.client_laws.specs.Classes.{Meaning, by_name}
use Rattle.client_laws.proofs.ByteLemmas.{utf8-bytes}
use Rattle.client_laws.proofs.EscapeLemmas.{escaped, escaped-well, escaped-decoded, escaped-full}
use Rattle.client_laws.proofs.FormLemmas.{form}
use Rattle.client_laws.proofs.PathLemmas.{path-segments, target-path, target-query}

-- what a route reads of a request, by the name in its path
abbrev pub read_by : Query → List ℕ → Bool → Route → List ℕ → Meaning
read_by query body upgrade route name = route_class route (record { name = name; query = form query; body = body; upgrade = upgrade })

-- what the route of these segments reads
abbrev routed : Option Method → (Route → List ℕ → Meaning) → List (List ℕ) → Meaning
routed m read ss = and_then (or_not_found (route_for m ss)) (λ route. and_then (parameter_of ss) (read route))

-- the class of a request is what the route of its segments reads, each escaped
pub class-routed : (method : List ℕ) (manner : Manner) (path : List (List ℕ)) (query : Query) (body : List ℕ)
    → class_of (request_of method manner path query body)
    ≡ or_refusal (routed (method_of method) (read_by query body (asks_upgrade (request_of method manner path query body))) (map escaped path))
unfolding class_of
class-routed method manner path query body =
    let upgrade = asks_upgrade (request_of method manner path query body) in
    let version = codes "v1.43" in
    let reads = λ (q : List ℕ) (route : Route) (name : List ℕ). route_class route (record { name = name; query = q; body = body; upgrade = upgrade }) in
    let class = λ (p q : List ℕ). or_refusal (and_then (behind_version (segments p)) (routed (method_of method) (reads q))) in
    ap (λ p. class p (query_of (path_text (version ∷ path) ++ query_text query))) (target-path (version ∷ path) query)
    ∙ ap (class (path_text (version ∷ path))) (target-query (version ∷ path) query)
    ∙ ap (λ ss. or_refusal (and_then (behind_version ss) (routed (method_of method) (reads (form query))))) (path-segments version path)

-- ---- a path with a parameter

segment-text : (name : List ℕ) → All IsByte name → segment_text (escaped name) ≡ cond (is_utf8 name) (Ok name) (Err BadPath)
unfolding segment_text
segment-text name bytes = rw (escaped-well name, escaped-decoded name bytes) refl

-- a segment that isn't empty has this route, and the empty one has none
pub record IsRow (m : Option Method) (front : List ℕ) (behind : List (List ℕ)) (route : Route) : Type 0 where
  pub none : route_for m (front ∷ [] ∷ behind) ≡ None
  pub some : (c : ℕ) (rest : List ℕ) → route_for m (front ∷ (c ∷ rest) ∷ behind) ≡ Some route

by-text : (b : Bool) (name : List ℕ) (read : List ℕ → Meaning) → and_then (cond b (Ok name) (Err BadPath)) read ≡ cond b (read name) (Err BadPath)
by-text true name read = refl
by-text false name read = refl

pub routed-by-name : (m : Option Method) (front : List ℕ) (behind : List (List ℕ)) (route : Route) (name : List ℕ)
    (read : Route → List ℕ → Meaning) → IsRow m front behind route → All IsByte name
    → routed m read (front ∷ escaped name ∷ behind) ≡ by_name name (read route name)
routed-by-name m front behind route [] read row bytes =
    ap (λ found. and_then (or_not_found found) (λ r. and_then (parameter_of (front ∷ [] ∷ behind)) (read r))) row.none
routed-by-name m front behind route (b ∷ s) read row bytes =
    let full = escaped-full b s in
    let found : route_for m (front ∷ escaped (b ∷ s) ∷ behind) ≡ Some route = ap (λ x. route_for m (front ∷ x ∷ behind)) full.2 ∙ row.some full.0 full.1 in
    ap (λ r. and_then (or_not_found r) (λ r. and_then (parameter_of (front ∷ escaped (b ∷ s) ∷ behind)) (read r))) found
    ∙ ap (λ t. and_then t (read route)) (segment-text (b ∷ s) bytes)
    ∙ by-text (is_utf8 (b ∷ s)) (b ∷ s) (read route)

-- ---- a path whose second segment is a word of the table

pub routed-by-word : (m : Option Method) (front : List ℕ) (behind : List (List ℕ)) (route : Route) (word : List ℕ)
    (read : Route → List ℕ → Meaning) → route_for m (front ∷ escaped word ∷ behind) ≡ Some route → IsUtf8 word
    → routed m read (front ∷ escaped word ∷ behind) ≡ read route word
routed-by-word m front behind route word read found utf8 =
    ap (λ r. and_then (or_not_found r) (λ r. and_then (parameter_of (front ∷ escaped word ∷ behind)) (read r))) found
    ∙ ap (λ t. and_then t (read route)) (segment-text word (utf8-bytes word utf8))
    ∙ ap (λ b. and_then (cond b (Ok word) (Err BadPath)) (read route)) (is_utf8-from_IsUtf8 word utf8)
