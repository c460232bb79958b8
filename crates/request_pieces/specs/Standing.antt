-- Where a reader of pieces stands inside a request, and which bytes brought it there (RFC 9112; own: how it is kept).
use Rattle.std.specs.Prelude.{ℕ, ◌≡◌, ◌<◌, ◌≤◌, ◌+◌, List, [], ◌++◌, length, min}
use Rattle.httparse.specs.Grammar.{RequestHead, print_request}
use Rattle.httparse.specs.Spans.{IsRequestWithin, IsRequestAt}
use Rattle.httparse.specs.declared.spans.RequestSpans.{RequestSpans}
use Rattle.engine_ports.specs.Rose.{greatest_count}
use Rattle.http_edge.specs.Limits.{head_limit, body_limit}
use Rattle.http_edge.specs.Chunked.{Chunk, IsChunk, print_open, BeginsWithChunks, joined}
use Rattle.http_edge.specs.Parts.{IsPart}
use Rattle.http_edge.specs.Refusal.{AwaitsMore}
use Rattle.http_edge.specs.Spelling.{head_framing}
use Rattle.http_edge.specs.Stored.{Stored}
use Rattle.http_edge.specs.declared.framing.Framing.{Framing}
use Rattle.http_edge.specs.declared.framing.Framing.TheVariants.{Length, Chunked}
use Rattle.http_edge.specs.declared.parts.Part.TheVariants as part
use Rattle.request_pieces.specs.declared.standing.Inside.{Inside}
use Rattle.request_pieces.specs.declared.standing.Inside.TheVariants.{Head, Body, Chunks}
use Rattle.request_pieces.specs.declared.standing.ChunkAt.{ChunkAt}
use Rattle.request_pieces.specs.declared.standing.ChunkAt.TheVariants.{Line, Bytes, End, Trailers}
use Rattle.request_pieces.specs.declared.taking.Intake.{Intake}

-- a head of the grammar is kept, whose parts stand at these places, and which frames its body so
pub record KeepsHead (b : Stored) (r : RequestSpans) (framing : Framing) : Type 0 where
  pub head : RequestHead
  pub within : IsRequestWithin b.head b.spans r
  pub at : IsRequestAt b.head b.spans r head
  pub whole : b.head ≡ print_request head
  pub small : length b.head ≤ head_limit
  pub framed : framing ≡ head_framing head

-- the bytes are whole chunks, which join to this
abbrev pub AreChunks : List ℕ → List ℕ → Type 0
AreChunks bytes body = (chunks : List Chunk) × BeginsWithChunks bytes chunks [] × (body ≡ joined chunks)

-- the bytes are whole chunks and a part of what follows, which brought a reader there; these of them are bytes of the body
abbrev pub HasRead : ChunkAt → List ℕ → List ℕ → Type 0
HasRead Line bytes body = AreChunks bytes body
HasRead (Bytes until) bytes body =
    (before old line piece : List ℕ) × (size : ℕ) × AreChunks before old × IsPart part.Line line size
    × (length piece < size) × (until ≡ length old + size) × (until ≤ body_limit)
    × (bytes ≡ before ++ (line ++ piece)) × (body ≡ old ++ piece)
HasRead End bytes body =
    (before old : List ℕ) × (chunk : Chunk) × AreChunks before old × IsChunk chunk
    × (length body ≤ body_limit) × (bytes ≡ before ++ print_open chunk) × (body ≡ old ++ chunk.piece)
HasRead Trailers bytes body =
    (before last : List ℕ) × AreChunks before body × IsPart part.Line last 0 × (bytes ≡ before ++ last)

-- these are all the bytes since the last request, of which these stand ahead
abbrev pub Holds : Inside → Stored → List ℕ → List ℕ → Type 0
Holds Head b ahead bytes = bytes ≡ ahead
Holds (Body r size) b ahead bytes =
    KeepsHead b r (Length size) × (length b.body ≤ size) × (size ≤ body_limit)
    × (bytes ≡ b.head ++ (b.body ++ ahead))
Holds (Chunks r at) b ahead bytes =
    (read : List ℕ) × KeepsHead b r Chunked × HasRead at read b.body × (bytes ≡ b.head ++ (read ++ ahead))

-- some bytes brought a reader there
abbrev pub IsBegun : Inside → Stored → List ℕ → Type 0
IsBegun inside b ahead = (bytes : List ℕ) × Holds inside b ahead bytes

-- these are all the bytes that it took since the last request: none, or a part of a request
pub record HasTaken (i : Intake) (bytes : List ℕ) : Type 0 where
  pub holds : Holds i.inside i.buffers i.ahead bytes
  pub awaits : AwaitsMore bytes
  pub count : i.count ≡ min (length bytes) greatest_count
