-- What reading into a buffer does: the bytes that stand there grow by what the source gave.
use Rattle.std.specs.Prelude.{◌≡◌, ◌<◌, ◌≤◌, ◌+◌, ℕ, List, ◌++◌, length, take}
use Rattle.httparse.specs.Grammar.{HasNoRequest, NeverHasRequest, MayBecomeRequest}
use Rattle.httparse.specs.Spans.{IsRequestWithin, IsRequestOf}
use Rattle.httparse.specs.declared.spans.HeaderSpan.{HeaderSpan}
use Rattle.engine_ports.specs.Rose.{Rose}
use Rattle.engine_ports.specs.Source.{SourceView, SourceGave, SourceEnded}
use Rattle.engine_ports.specs.declared.ports.Got.{Got}
use Rattle.engine_ports.specs.declared.ports.Got.TheVariants as got
use Rattle.http_edge.specs.Limits.{head_limit}
use Rattle.http_edge.specs.Refusal.{AwaitsMore}
use Rattle.http_edge.specs.declared.front.Parsed.{Parsed}
use Rattle.http_edge.specs.declared.front.Parsed.TheVariants as parsed
use Rattle.http_edge.specs.declared.front.HeadRead.{HeadRead}
use Rattle.http_edge.specs.declared.front.HeadRead.TheVariants.{Head, Malformed, TooLong, End, CutShort, Failed}
use Rattle.http_edge.specs.declared.fill.Filled.{Filled}
use Rattle.http_edge.specs.declared.fill.Filled.TheVariants as filled

-- the bytes before, and then what the source gave, are the bytes after
pub record Fills (before after : List ℕ) (s s' : SourceView) : Type 0 where
  pub read : List ℕ
  pub gave : SourceGave s read s'
  pub grows : after ≡ before ++ read

-- the source gave some bytes, and the fact holds of the bytes before and these
pub record Reached (before : List ℕ) (s s' : SourceView) (P : List ℕ → Type 0) : Type 0 where
  pub read : List ℕ
  pub gave : SourceGave s read s'
  pub holds : P (before ++ read)

-- a read behind the first len bytes of the buffer
abbrev pub ReadsBehind : Got → List ℕ → List ℕ → ℕ → SourceView → SourceView → Type 0
ReadsBehind (got.Bytes n) old new len s s' =
    (0 < n) × (len + n ≤ length new) × Fills (take len old) (take (len + n) new) s s'
ReadsBehind got.End old new len s s' = Fills (take len old) (take len new) s s' × SourceEnded s s'
ReadsBehind got.Failed old new len s s' = Fills (take len old) (take len new) s s' × Rose s.faults s'.faults

-- a read behind the bytes that stand there
abbrev pub ReadsMore : Got → List ℕ → List ℕ → SourceView → SourceView → Type 0
ReadsMore (got.Bytes n) before after s s' = (length before < length after) × Fills before after s s'
ReadsMore got.End before after s s' = (after ≡ before) × Fills before after s s' × SourceEnded s s'
ReadsMore got.Failed before after s s' = (after ≡ before) × Fills before after s s' × Rose s.faults s'.faults

-- what bytes are, read as a head
abbrev pub ParseFacts : Parsed → List ℕ → List HeaderSpan → Type 0
ParseFacts (parsed.Head r) bytes spans = IsRequestWithin bytes spans r × IsRequestOf bytes spans r
ParseFacts parsed.Part bytes spans = HasNoRequest bytes × MayBecomeRequest bytes
ParseFacts parsed.Malformed bytes spans = NeverHasRequest bytes

-- what reading a head came to, of the bytes that stand ahead
abbrev pub HeadFacts : HeadRead → List ℕ → List HeaderSpan → SourceView → SourceView → Type 0
HeadFacts (Head r) bytes spans s s' = IsRequestWithin bytes spans r × IsRequestOf bytes spans r
HeadFacts Malformed bytes spans s s' = NeverHasRequest bytes
HeadFacts TooLong bytes spans s s' =
    (length bytes ≡ head_limit) × HasNoRequest bytes × MayBecomeRequest bytes
HeadFacts End bytes spans s s' = (length bytes ≡ 0) × SourceEnded s s'
HeadFacts CutShort bytes spans s s' =
    (0 < length bytes) × (length bytes < head_limit) × HasNoRequest bytes × MayBecomeRequest bytes × SourceEnded s s'
HeadFacts Failed bytes spans s s' = AwaitsMore bytes × Rose s.faults s'.faults

-- what filling a place of this size came to: len bytes of it stand there
abbrev pub FillFacts : Filled → ℕ → ℕ → SourceView → SourceView → Type 0
FillFacts filled.Whole len size s s' = len ≡ size
FillFacts filled.CutShort len size s s' = (len < size) × SourceEnded s s'
FillFacts filled.Failed len size s s' = (len < size) × Rose s.faults s'.faults

-- what filling a place says, of the bytes that stood ahead and those that the source gave
abbrev pub FillSays : Filled → List ℕ → List ℕ → List ℕ → SourceView → SourceView → Type 0
FillSays filled.Whole before ahead place s s' = Reached before s s' (λ bytes. bytes ≡ place ++ ahead)
FillSays filled.CutShort before ahead place s s' =
    Reached before s s' (λ bytes. length bytes < length place) × SourceEnded s s'
FillSays filled.Failed before ahead place s s' =
    Reached before s s' (λ bytes. length bytes < length place) × Rose s.faults s'.faults
