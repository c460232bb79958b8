-- The requests that the client sends (RFC 9112, section 3; Docker Engine API v1.43, "Versioning").
use Rattle.std.specs.Prelude.{ℕ, List, [], ◌∷◌, ◌++◌, length, flat_map, codes, decimal, Bool, Option, if◌then◌else◌}
use Rattle.std.specs.Option.{option_map_or}
use Rattle.serde_json.specs.Data.{Data}
use Rattle.serde_json.specs.Written.{compact_text}
use Rattle.form_urlencoded.specs.Form.{is_unchanged, extend_pairs}
use Rattle.percent_encoding.specs.Percent.{percent_encode_byte}
use Rattle.engine_text.specs.declared.pairs.Pair.{Pair}
use Rattle.api_json.specs.Values.{pairs_of}
use Rattle.api_routes.specs.Path.{question_mark}
use Rattle.http_edge.specs.Message.{Header, Request}
use Rattle.client_model.specs.declared.manner.Manner.{Manner}
use Rattle.client_model.specs.declared.manner.Manner.TheVariants.{Closes, Upgrades}

-- ---- targets

-- letters, digits and `*-._` stand for themselves in a segment of a path; other bytes are escaped
abbrev pub escaped_byte : ℕ → List ℕ
escaped_byte b = if is_unchanged b then b ∷ [] else percent_encode_byte b

-- the segments of a path, each behind a slash
abbrev pub path_text : List (List ℕ) → List ℕ
path_text path = flat_map (λ segment. codes "/" ++ flat_map escaped_byte segment) path

-- the keys and values of a query
abbrev pub Query : Type 0
Query = List Pair

abbrev pub query_text : Query → List ℕ
query_text [] = []
query_text (pair ∷ pairs) = question_mark ∷ extend_pairs [] (pairs_of (pair ∷ pairs))

-- the current version, the path and the query
abbrev pub target_of : List (List ℕ) → Query → List ℕ
target_of path query = codes "/v1.43" ++ path_text path ++ query_text query

-- a key with its value; one whose value isn't given doesn't stand there
abbrev pub key : List ℕ → List ℕ → Query
key name value = record { key = name; value = value } ∷ []

abbrev pub key_if : List ℕ → Option (List ℕ) → Query
key_if name value = option_map_or (key name) value []

-- a key that is true, if it is set
abbrev pub key_set : List ℕ → Bool → Query
key_set name set = if set then key name (codes "1") else []

-- ---- requests

-- a connection closes behind its one request, or the answer takes it over
abbrev pub manner_fields : Manner → List Header
manner_fields Closes = (codes "Connection", codes "close") ∷ []
manner_fields Upgrades = (codes "Connection", codes "Upgrade") ∷ (codes "Upgrade", codes "tcp") ∷ []

-- a body is JSON
abbrev pub body_fields : List ℕ → List Header
body_fields [] = []
body_fields body = (codes "Content-Length", decimal (length body)) ∷ (codes "Content-Type", codes "application/json") ∷ []

-- a request by its method, its manner, its path, its query and its body
abbrev pub request_of : List ℕ → Manner → List (List ℕ) → Query → List ℕ → Request
request_of method manner path query body = record {
  method = method;
  target = target_of path query;
  fields = (codes "Host", codes "engine") ∷ manner_fields manner ++ body_fields body;
  body = body;
}

abbrev pub get : List (List ℕ) → Query → Request
get path query = request_of (codes "GET") Closes path query []

abbrev pub delete : List (List ℕ) → Query → Request
delete path query = request_of (codes "DELETE") Closes path query []

abbrev pub post : List (List ℕ) → Query → Request
post path query = request_of (codes "POST") Closes path query []

-- with a body
abbrev pub post_body : List (List ℕ) → Query → Data → Request
post_body path query body = request_of (codes "POST") Closes path query (compact_text body)

-- whose answer takes the connection over
abbrev pub take_over : List (List ℕ) → Query → Request
take_over path query = request_of (codes "POST") Upgrades path query []

-- ---- paths

abbrev pub container_path : List ℕ → List (List ℕ)
container_path target = codes "containers" ∷ target ∷ []

-- that of a container's operation
abbrev pub operation_path : List ℕ → List ℕ → List (List ℕ)
operation_path target operation = codes "containers" ∷ target ∷ operation ∷ []

-- that of an exec's operation
abbrev pub exec_path : List ℕ → List ℕ → List (List ℕ)
exec_path id operation = codes "exec" ∷ id ∷ operation ∷ []

abbrev pub volume_path : List ℕ → List (List ℕ)
volume_path name = codes "volumes" ∷ name ∷ []

-- ---- bytes

abbrev pub field_line : Header → List ℕ
field_line field = field.0 ++ codes ": " ++ field.1 ++ codes "\r\n"

-- the bytes of a request
abbrev pub request_bytes : Request → List ℕ
request_bytes r =
    r.method ++ codes " " ++ r.target ++ codes " HTTP/1.1\r\n" ++ flat_map field_line r.fields ++ codes "\r\n" ++ r.body
