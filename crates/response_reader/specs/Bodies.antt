-- Bodies as a client takes them (RFC 9112, sections 6.3 and 7.1), as far as they came.
use Rattle.std.specs.Prelude.{ℕ, ◌≡◌, ◌<◌, ◌+◌, ◌⊎◌, Bool, IsTrue, List, [], ◌++◌, length, All, ⊤}
use Rattle.http_edge.specs.Chunked.{Chunk, IsChunk, print_chunks, joined}
use Rattle.http_edge.specs.Parts.{IsPart, RefusesPart, CutsPart}
use Rattle.http_edge.specs.declared.head.Form.{Form}
use Rattle.http_edge.specs.declared.head.Form.TheVariants.{Json, Plain, Empty, ChunkedFrames, ChunkedJson, ChunkedPlain, Takeover}
use Rattle.http_edge.specs.declared.parts.Part.TheVariants.{Line, End, Trailers}
use Rattle.response_reader.specs.declared.framing.Left.{Left}
use Rattle.response_reader.specs.declared.framing.Left.TheVariants as left

-- how the end of a body is told: by its length, by chunks, or by the end of the input
pub data Framing : Type 0 where
  Sized : ℕ → Framing
  Chunked : Framing
  UntilEnd : Framing

-- the body behind a head of this form
abbrev pub framing_of : Form → Framing
framing_of (Json n) = Sized n
framing_of (Plain n) = Sized n
framing_of Empty = Sized 0
framing_of ChunkedFrames = Chunked
framing_of (ChunkedJson first) = Chunked
framing_of ChunkedPlain = Chunked
framing_of (Takeover upgrade) = UntilEnd

-- behind the chunks: a chunk's line, and a part of its piece, which lacks so many bytes
pub record IsInPiece (chunks : List Chunk) (coded given : List ℕ) (missing : ℕ) : Type 0 where
  pub line : List ℕ
  pub got : List ℕ
  pub some : 0 < length got + missing
  pub line_is : IsPart Line line (length got + missing)
  pub coded_is : coded ≡ print_chunks chunks ++ line ++ got
  pub given_is : given ≡ joined chunks ++ got

-- behind the chunks: a line that tells no bytes, and trailers
pub record HasLast (chunks : List Chunk) (coded given : List ℕ) : Type 0 where
  pub last : List ℕ
  pub trailers : List ℕ
  pub last_is : IsPart Line last 0
  pub trailers_are : IsPart Trailers trailers 0
  pub coded_is : coded ≡ print_chunks chunks ++ last ++ trailers
  pub given_is : given ≡ joined chunks

-- such coded bytes behind whole chunks carry the bytes given of a body by chunks, and this is left of it
abbrev pub Goes : List Chunk → List ℕ → List ℕ → Left → Type 0
Goes chunks coded given left.Chunk = (coded ≡ print_chunks chunks) × (given ≡ joined chunks)
Goes chunks coded given (left.Piece missing) = IsInPiece chunks coded given missing
Goes chunks coded given left.Over = HasLast chunks coded given
Goes chunks coded given other = ⊥

-- these coded bytes, the whole chunks first among them, carry the bytes given of a body, and this is left of it
abbrev pub Carries : Framing → List Chunk → List ℕ → List ℕ → Left → Type 0
Carries (Sized n) chunks coded given (left.Sized missing) =
    (chunks ≡ []) × (coded ≡ given) × (length given + missing ≡ n)
Carries Chunked chunks coded given left = All IsChunk chunks × Goes chunks coded given left
Carries UntilEnd chunks coded given left.UntilEnd = (chunks ≡ []) × (coded ≡ given)
Carries framing chunks coded given other = ⊥

-- nothing is left, where these bytes are behind, and the input has ended or not
abbrev pub IsWhole : Left → List ℕ → Bool → Type 0
IsWhole (left.Sized missing) behind ended = missing ≡ 0
IsWhole left.Over behind ended = ⊤
IsWhole left.UntilEnd behind ended = (behind ≡ []) × IsTrue ended
IsWhole other behind ended = ⊥

-- a line that tells no bytes, and behind it such bytes
abbrev pub BehindLast : (List ℕ → Type 0) → List ℕ → Type 0
BehindLast Is bytes = (last : List ℕ) × (rest : List ℕ) × IsPart Line last 0 × (bytes ≡ last ++ rest) × Is rest

-- the bytes that come next are refused: they are no line of a chunk, no line end behind it, or no trailers
abbrev pub Breaks : Left → List ℕ → Type 0
Breaks left.Chunk behind = RefusesPart Line behind ⊎ BehindLast (RefusesPart Trailers) behind
Breaks (left.Piece missing) behind = (missing ≡ 0) × RefusesPart End behind
Breaks other behind = ⊥

-- more of the body is left than these bytes, which carry nothing of it: the end of the input would cut it there
abbrev pub Lacks : Left → List ℕ → Type 0
Lacks (left.Sized missing) behind = (0 < missing) × (behind ≡ [])
Lacks left.Chunk behind = CutsPart Line behind ⊎ BehindLast (CutsPart Trailers) behind
Lacks (left.Piece missing) behind = ((0 < missing) × (behind ≡ [])) ⊎ ((missing ≡ 0) × CutsPart End behind)
Lacks other behind = ⊥

-- more of it may come behind these bytes, which carry nothing of it
abbrev pub MayGoOn : Left → List ℕ → Type 0
MayGoOn left.UntilEnd behind = behind ≡ []
MayGoOn left behind = Lacks left behind
