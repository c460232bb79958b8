-- What stands between the bytes of a body by chunks (RFC 9112, section 7.1): a chunk's line, the line
-- end behind a chunk, and the trailers. They are read as a head is: within a limit, and as far as they stand there.
use Rattle.std.specs.Prelude.{ℕ, ◌≡◌, ◌<◌, ◌≤◌, ◌⊎◌, List, ◌++◌, length, take, codes, All}
use Rattle.httparse.specs.Grammar.{ChunkLine, IsChunkLine, print_chunk_line, chunk_size, Field, IsField, LineEnd, print_section}
use Rattle.http_edge.specs.Limits.{line_limit, trailer_limit}
use Rattle.http_edge.specs.declared.parts.Part.{Part}
use Rattle.http_edge.specs.declared.parts.Part.TheVariants.{Line, End, Trailers}

-- the most bytes of such a part
abbrev pub part_limit : Part → ℕ
part_limit Line = line_limit
part_limit End = 2
part_limit Trailers = trailer_limit

-- the text is such a part of the grammar, of any length, and tells a chunk of this size; of the others none
abbrev pub IsText : Part → List ℕ → ℕ → Type 0
IsText Line text size =
    (line : ChunkLine) × IsChunkLine line × (text ≡ print_chunk_line line) × (size ≡ chunk_size line)
IsText End text size = (text ≡ codes "\r\n") × (size ≡ 0)
IsText Trailers text size =
    (fields : List Field) × (last : LineEnd) × All IsField fields × (text ≡ print_section fields last) × (size ≡ 0)

-- the text is such a part, within its limit
abbrev pub IsPart : Part → List ℕ → ℕ → Type 0
IsPart part text size = IsText part text size × (length text ≤ part_limit part)

-- the bytes begin with no such part
abbrev pub HasNoPart : Part → List ℕ → Type 0
HasNoPart part bytes =
    (text behind : List ℕ) (size : ℕ) → IsText part text size → ¬ (bytes ≡ text ++ behind)

-- nor do they, whatever follows
abbrev pub NeverHasPart : Part → List ℕ → Type 0
NeverHasPart part bytes = (more : List ℕ) → HasNoPart part (bytes ++ more)

-- some bytes can follow that make them such a part
abbrev pub MayBecomePart : Part → List ℕ → Type 0
MayBecomePart part bytes = (more : List ℕ) × (size : ℕ) × IsText part (bytes ++ more) size

-- the bytes in which the part has to stand
abbrev pub part_window : Part → List ℕ → List ℕ
part_window part bytes = take (part_limit part) bytes

-- the part is refused: none can come of the first bytes, or there are as many as it may have, and none
abbrev pub RefusesPart : Part → List ℕ → Type 0
RefusesPart part bytes =
    NeverHasPart part (part_window part bytes)
    ⊎ ((part_limit part ≤ length bytes) × HasNoPart part (part_window part bytes))

-- the bytes are a piece of the part, and more may follow
abbrev pub CutsPart : Part → List ℕ → Type 0
CutsPart part bytes = (length bytes < part_limit part) × HasNoPart part bytes × MayBecomePart part bytes
