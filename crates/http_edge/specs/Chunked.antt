-- A body by chunks (RFC 9112, section 7.1): chunks, a line that tells no bytes, and the trailers.
use Rattle.std.specs.Prelude.{ℕ, ◌≡◌, ◌<◌, ◌≤◌, ◌+◌, List, ◌++◌, length, codes, All}
use Rattle.std.specs.List.{flat_map}
use Rattle.http_edge.specs.Limits.{body_limit}
use Rattle.http_edge.specs.Parts.{IsPart, RefusesPart, CutsPart}
use Rattle.http_edge.specs.declared.parts.Part.TheVariants.{Line, End, Trailers}

-- a chunk: its line, and its bytes of the body
pub record Chunk : Type 0 where
  pub line : List ℕ
  pub piece : List ℕ

-- it isn't empty, and its line tells how many bytes it has
abbrev pub IsChunk : Chunk → Type 0
IsChunk chunk = (0 < length chunk.piece) × IsPart Line chunk.line (length chunk.piece)

-- the bytes of a chunk, without the line end behind it
abbrev pub print_open : Chunk → List ℕ
print_open chunk = chunk.line ++ chunk.piece

-- the bytes of chunks
abbrev pub print_chunks : List Chunk → List ℕ
print_chunks chunks = flat_map (λ chunk. print_open chunk ++ codes "\r\n") chunks

-- the body that chunks join to
abbrev pub joined : List Chunk → List ℕ
joined chunks = flat_map (λ chunk. chunk.piece) chunks

-- the bytes begin with the chunks, which join to a body within its limit, and behind them stand these
pub record BeginsWithChunks (bytes : List ℕ) (chunks : List Chunk) (behind : List ℕ) : Type 0 where
  pub valid : All IsChunk chunks
  pub fits : length (joined chunks) ≤ body_limit
  pub whole : bytes ≡ print_chunks chunks ++ behind

-- the bytes spell the body: chunks that join to it, then a line that tells no bytes, and trailers
pub record SpellsChunks (bytes body : List ℕ) : Type 0 where
  pub chunks : List Chunk
  pub last : List ℕ
  pub trailers : List ℕ
  pub begins : BeginsWithChunks bytes chunks (last ++ trailers)
  pub ends : IsPart Line last 0
  pub trails : IsPart Trailers trailers 0
  pub body_is : body ≡ joined chunks

-- behind so many bytes of the body the next bytes are refused with the status
pub data RefusesNext (before : ℕ) (bytes : List ℕ) (status : ℕ) : Type 0 where
  -- no chunk's line
  by_line : status ≡ 400 → RefusesPart Line bytes → RefusesNext before bytes status
  -- a chunk with which the body is too long
  by_sum : status ≡ 413 → (line behind : List ℕ) (size : ℕ) → IsPart Line line size → bytes ≡ line ++ behind → body_limit < before + size → RefusesNext before bytes status
  -- no line end behind a chunk
  by_end : status ≡ 400 → (chunk : Chunk) (behind : List ℕ) → IsChunk chunk → before + length chunk.piece ≤ body_limit → bytes ≡ print_open chunk ++ behind → RefusesPart End behind → RefusesNext before bytes status
  -- no trailers
  by_trailers : status ≡ 400 → (last behind : List ℕ) → IsPart Line last 0 → bytes ≡ last ++ behind → RefusesPart Trailers behind → RefusesNext before bytes status

-- behind so many bytes of the body the next bytes are part of what may follow
pub data CutsNext (before : ℕ) (bytes : List ℕ) : Type 0 where
  in_line : CutsPart Line bytes → CutsNext before bytes
  in_chunk : (line behind : List ℕ) (size : ℕ) → IsPart Line line size → before + size ≤ body_limit → bytes ≡ line ++ behind → length behind < size → CutsNext before bytes
  in_end : (chunk : Chunk) (behind : List ℕ) → IsChunk chunk → before + length chunk.piece ≤ body_limit → bytes ≡ print_open chunk ++ behind → CutsPart End behind → CutsNext before bytes
  in_trailers : (last behind : List ℕ) → IsPart Line last 0 → bytes ≡ last ++ behind → CutsPart Trailers behind → CutsNext before bytes

-- behind some chunks the bytes are refused
abbrev pub RefusesChunks : List ℕ → ℕ → Type 0
RefusesChunks bytes status =
    (chunks : List Chunk) × (behind : List ℕ) × BeginsWithChunks bytes chunks behind
    × RefusesNext (length (joined chunks)) behind status

-- behind some chunks the bytes are part of what may follow
abbrev pub CutsChunks : List ℕ → Type 0
CutsChunks bytes =
    (chunks : List Chunk) × (behind : List ℕ) × BeginsWithChunks bytes chunks behind
    × CutsNext (length (joined chunks)) behind
