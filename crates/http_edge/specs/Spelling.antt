-- The bytes of a connection as requests, one after another (RFC 9112, section 9.3).
use Rattle.std.specs.Prelude.{ℕ, ◌≡◌, ◌≤◌, List, [], ◌∷◌, ◌++◌, length, map}
use Rattle.httparse.specs.Grammar.{RequestHead, IsRequestHead, print_request}
use Rattle.httparse.specs.Spans.{name_and_value}
use Rattle.http_edge.specs.Limits.{head_limit}
use Rattle.http_edge.specs.Message.{Request}
use Rattle.http_edge.specs.Framing.{framing_of}
use Rattle.http_edge.specs.Chunked.{SpellsChunks}
use Rattle.http_edge.specs.declared.framing.Framing.{Framing}
use Rattle.http_edge.specs.declared.framing.Framing.TheVariants.{Length, Chunked, Refused}

-- how the body behind a head is framed
abbrev pub head_framing : RequestHead → Framing
head_framing h = framing_of h.minor (map name_and_value h.fields)

-- the bytes behind a head spell the body
abbrev pub SpellsBody : Framing → List ℕ → List ℕ → Type 0
SpellsBody (Length n) bytes body = (body ≡ bytes) × (length bytes ≡ n)
SpellsBody Chunked bytes body = SpellsChunks bytes body
SpellsBody (Refused status) bytes body = ⊥

-- the bytes spell the request: a head of the grammar within its limit, and its body
pub record Spells (bytes : List ℕ) (request : Request) : Type 0 where
  pub head : RequestHead
  pub coded : List ℕ
  pub valid : IsRequestHead head
  pub small : length (print_request head) ≤ head_limit
  pub body : SpellsBody (head_framing head) coded request.body
  pub method : request.method ≡ head.method
  pub target : request.target ≡ head.target
  pub fields : request.fields ≡ map name_and_value head.fields
  pub whole : bytes ≡ print_request head ++ coded

-- the bytes begin with the request, and behind it stand these
abbrev pub Begins : List ℕ → Request → List ℕ → Type 0
Begins bytes request behind = (spelling : List ℕ) × Spells spelling request × (bytes ≡ spelling ++ behind)

-- the bytes begin with no request
abbrev pub HasNoRequest : List ℕ → Type 0
HasNoRequest bytes = (request : Request) (behind : List ℕ) → ¬ (Begins bytes request behind)

-- the bytes begin with these requests, one after another, and behind them stands the rest
abbrev pub ReadsRequests : List ℕ → List Request → List ℕ → Type 0
ReadsRequests bytes [] rest = bytes ≡ rest
ReadsRequests bytes (r ∷ rs) rest = (behind : List ℕ) × Begins bytes r behind × ReadsRequests behind rs rest

-- these are all the requests, and the rest begins with none
abbrev pub ReadsAll : List ℕ → List Request → List ℕ → Type 0
ReadsAll bytes rs rest = ReadsRequests bytes rs rest × HasNoRequest rest
