-- What reading a body by chunks came to, part by part (RFC 9112, section 7.1).
use Rattle.std.specs.Prelude.{ℕ, ◌≡◌, ◌<◌, ◌≤◌, List, ◌++◌, length, codes}
use Rattle.engine_ports.specs.Rose.{Rose}
use Rattle.engine_ports.specs.Source.{SourceView, SourceEnded}
use Rattle.http_edge.specs.Limits.{body_limit}
use Rattle.http_edge.specs.Reading.{Fills, Reached}
use Rattle.http_edge.specs.Parts.{IsText, IsPart, HasNoPart, NeverHasPart, MayBecomePart, RefusesPart, CutsPart}
use Rattle.http_edge.specs.Chunked.{Chunk, IsChunk, print_open, RefusesNext, CutsNext}
use Rattle.http_edge.specs.declared.parts.Part.{Part}
use Rattle.http_edge.specs.declared.parts.Part.TheVariants.{Line, Trailers}
use Rattle.http_edge.specs.declared.parts.PartParsed.{PartParsed}
use Rattle.http_edge.specs.declared.parts.PartParsed.TheVariants as parsed
use Rattle.http_edge.specs.declared.parts.PartRead.{PartRead}
use Rattle.http_edge.specs.declared.parts.PartRead.TheVariants as part
use Rattle.http_edge.specs.declared.fill.Filled.{Filled}
use Rattle.http_edge.specs.declared.fill.Filled.TheVariants as filled
use Rattle.http_edge.specs.declared.chunked.ChunkRead.{ChunkRead}
use Rattle.http_edge.specs.declared.chunked.ChunkRead.TheVariants as chunk

-- so many bytes are the part, and behind it stand these
abbrev pub PartBy : Part → ℕ → ℕ → List ℕ → List ℕ → Type 0
PartBy kind size count behind bytes =
    (text : List ℕ) × IsPart kind text size × (length text ≡ count) × (bytes ≡ text ++ behind)

-- what bytes are, read as a part
abbrev pub PartFacts : Part → PartParsed → List ℕ → Type 0
PartFacts kind (parsed.Whole size count) bytes =
    (text : List ℕ) × (behind : List ℕ) × IsText kind text size × (length text ≡ count) × (bytes ≡ text ++ behind)
PartFacts kind parsed.Piece bytes = HasNoPart kind bytes × MayBecomePart kind bytes
PartFacts kind parsed.Malformed bytes = NeverHasPart kind bytes

-- what reading a part came to, of the bytes that stood ahead and those that the source gave
abbrev pub PartSays : Part → PartRead → List ℕ → List ℕ → SourceView → SourceView → Type 0
PartSays kind (part.Whole size count) before ahead s s' = Reached before s s' (PartBy kind size count ahead)
PartSays kind part.Refused before ahead s s' = Reached before s s' (RefusesPart kind)
PartSays kind part.CutShort before ahead s s' =
    Reached before s s' (CutsPart kind) × SourceEnded s s' × Fills before ahead s s'
PartSays kind part.Failed before ahead s s' = Reached before s s' (CutsPart kind) × Rose s.faults s'.faults

-- what it came to that a body grows by so many bytes
abbrev pub GrowSays : Filled → ℕ → List ℕ → List ℕ → List ℕ → List ℕ → SourceView → SourceView → Type 0
GrowSays filled.Whole size before ahead old new s s' =
    (piece : List ℕ) × (new ≡ old ++ piece) × (length piece ≡ size)
    × Reached before s s' (λ bytes. bytes ≡ piece ++ ahead)
GrowSays filled.CutShort size before ahead old new s s' =
    Reached before s s' (λ bytes. length bytes < size) × SourceEnded s s'
GrowSays filled.Failed size before ahead old new s s' =
    Reached before s s' (λ bytes. length bytes < size) × Rose s.faults s'.faults

-- so many bytes are a chunk by which the body grew, and behind it stand these
abbrev pub ChunkBy : List ℕ → List ℕ → ℕ → List ℕ → List ℕ → Type 0
ChunkBy old new count behind bytes =
    (c : Chunk) × IsChunk c × (new ≡ old ++ c.piece) × (length new ≤ body_limit)
    × (length (print_open c ++ codes "\r\n") ≡ count) × (bytes ≡ (print_open c ++ codes "\r\n") ++ behind)

-- so many bytes end the body, and behind them stand these
abbrev pub LastBy : ℕ → List ℕ → List ℕ → Type 0
LastBy count behind bytes =
    (last : List ℕ) × (trailers : List ℕ) × IsPart Line last 0 × IsPart Trailers trailers 0
    × (length (last ++ trailers) ≡ count) × (bytes ≡ (last ++ trailers) ++ behind)

-- what reading a chunk came to, behind the bytes of the body
abbrev pub ChunkSays : ChunkRead → List ℕ → List ℕ → List ℕ → List ℕ → SourceView → SourceView → Type 0
ChunkSays (chunk.Chunk count) before ahead old new s s' = Reached before s s' (ChunkBy old new count ahead)
ChunkSays (chunk.Last count) before ahead old new s s' = (new ≡ old) × Reached before s s' (LastBy count ahead)
ChunkSays (chunk.Refused status) before ahead old new s s' =
    Reached before s s' (λ bytes. RefusesNext (length old) bytes status)
ChunkSays chunk.CutShort before ahead old new s s' = Reached before s s' (CutsNext (length old)) × SourceEnded s s'
ChunkSays chunk.Failed before ahead old new s s' =
    Reached before s s' (CutsNext (length old)) × Rose s.faults s'.faults

-- the same of the bytes behind a chunk's line, which tells this size, and has so many bytes
abbrev pub BehindLine : ChunkRead → ℕ → ℕ → List ℕ → List ℕ → List ℕ → List ℕ → SourceView → SourceView → Type 0
BehindLine read size count before ahead old new s s' =
    (line : List ℕ) → IsPart Line line size → length line ≡ count
    → ChunkSays read (line ++ before) ahead old new s s'
