-- What reads between the pieces of a body say.
use Rattle.std.proofs.Common.{arith, ◌≡◌, ◌<◌, ◌≤◌, ◌+◌, inl, inr, ℕ, List, [], ◌++◌, sym, ap, subst, ◌∙◌, length-append, append_assoc, append-nil}
use Rattle.engine_ports.specs.Rose.{Rose}
use Rattle.engine_ports.specs.Source.{SourceView, SourceEnded}
use Rattle.engine_ports.proofs.PortLemmas.{source_none}
use Rattle.http_edge.specs.Parts.{IsPart, RefusesPart, CutsPart}
use Rattle.http_edge.specs.Chunking.{PartBy, LastBy}
use Rattle.http_edge.specs.Reading.{Fills, Reached}
use Rattle.http_edge.specs.declared.parts.Part.TheVariants.{Line, Trailers}
use Rattle.http_edge.proofs.ReadLemmas.{fills_on, reached, reached_on, reached_behind, ended_on, failed_on}
use Rattle.response_reader.specs.Fronts.{IsPartOf}
use Rattle.response_reader.specs.Heads.{IsHead}
use Rattle.response_reader.specs.Bodies.{Breaks, Lacks}
use Rattle.response_reader.specs.Steps.{LineSays, AfterLine}
use Rattle.response_reader.specs.declared.framing.Left.TheVariants as left
use Rattle.response_reader.specs.declared.chunks.LineRead.{LineRead}
use Rattle.response_reader.specs.declared.chunks.LineRead.TheVariants as chunk

-- ---- a head

-- the bytes that stand there are a part of one, and no more came
pub head_cut : (before got after : List ℕ) (s t u : SourceView) → Fills before got s t → IsPartOf IsHead got → after ≡ got → Fills got after t u → Reached before s u (IsPartOf IsHead)
head_cut before got after s t u f part same g = reached before after s u (IsPartOf IsHead) (fills_on before got after s t u f g) (subst (IsPartOf IsHead) (sym same) part)

-- ---- a line

chunk_on : (r : LineRead) (before got ahead : List ℕ) (s t u : SourceView) → Fills before got s t → LineSays r got ahead t u → LineSays r before ahead s u
chunk_on (chunk.Piece size n) before got ahead s t u f x = (x.0, reached_on before got s t u _ f x.1)
chunk_on (chunk.Last n) before got ahead s t u f x = reached_on before got s t u _ f x
chunk_on chunk.Refused before got ahead s t u f x = reached_on before got s t u _ f x
chunk_on chunk.CutShort before got ahead s t u f x = (reached_on before got s t u _ f x.0, ended_on before got s t u f x.1)
chunk_on chunk.Failed before got ahead s t u f x = (reached_on before got s t u _ f x.0, failed_on before got s t u f x.1)

-- it was read, and what follows it
pub line_read : (r : LineRead) (size count : ℕ) (before mid ahead : List ℕ) (s t u : SourceView) → Reached before s t (PartBy Line size count mid)
    → AfterLine r size count mid ahead t u → LineSays r before ahead s u
line_read r size count before mid ahead s t u x behind =
    let h = x.holds in
    chunk_on r before (h.0 ++ mid) ahead s t u (record { read = x.read; gave = x.gave; grows = sym h.3 }) (behind h.0 h.1 h.2)

pub line_short : (size count : ℕ) (before mid : List ℕ) (s t : SourceView) → Reached before s t (PartBy Line size count mid) → count ≤ 256
line_short size count before mid s t x = let h = x.holds in let short = h.1.1 in omega (arith, short, h.2)

pub line_refused : (before : List ℕ) (s t : SourceView) → Reached before s t (RefusesPart Line) → Reached before s t (Breaks left.Chunk)
line_refused before s t = reached_behind before before s t (RefusesPart Line) (Breaks left.Chunk) (λ more r. inl r)

pub line_cut : (before : List ℕ) (s t : SourceView) → Reached before s t (CutsPart Line) → Reached before s t (Lacks left.Chunk)
line_cut before s t = reached_behind before before s t (CutsPart Line) (Lacks left.Chunk) (λ more cut. inl cut)

-- ---- what follows it

-- a piece
pub piece_begins : (size count : ℕ) (ahead : List ℕ) (s : SourceView) → 0 < size → AfterLine (chunk.Piece size count) size count ahead ahead s s
piece_begins size count ahead s some line p len = (
  some,
  record { read = []; gave = source_none s; holds = (line, p, len, append-nil (line ++ ahead)) },
)

-- the end of the body
module _ (size count : ℕ) (before ahead : List ℕ) (s t : SourceView) (zero_is : size ≡ 0) where
  no_bytes : (line : List ℕ) → IsPart Line line size → IsPart Line line 0
  no_bytes line p = subst (λ n. IsPart Line line n) zero_is p

  pub last_read : (n more : ℕ) → Reached before s t (PartBy Trailers n more ahead) → AfterLine (chunk.Last (count + more)) size count before ahead s t
  last_read n more x line p len =
      reached_behind (line ++ before) before s t (PartBy Trailers n more ahead) (LastBy (count + more) ahead)
      (λ rest q. (
        line,
        q.0,
        no_bytes line p,
        subst (λ k. IsPart Trailers q.0 k) q.1.0.4 q.1,
        omega (arith, len, q.2, length-append line q.0),
        append_assoc line before rest ∙ ap (λ l. line ++ l) q.3 ∙ sym (append_assoc line q.0 ahead),
      ))
      x

  pub last_refused : Reached before s t (RefusesPart Trailers) → AfterLine chunk.Refused size count before ahead s t
  last_refused x line p len =
      reached_behind (line ++ before) before s t (RefusesPart Trailers) (Breaks left.Chunk)
      (λ more r. inr (line, before ++ more, no_bytes line p, append_assoc line before more, r)) x

  last_open : (line : List ℕ) → IsPart Line line size → Reached before s t (CutsPart Trailers) → Reached (line ++ before) s t (Lacks left.Chunk)
  last_open line p x =
      reached_behind (line ++ before) before s t (CutsPart Trailers) (Lacks left.Chunk)
      (λ more cut. inr (line, before ++ more, no_bytes line p, append_assoc line before more, cut)) x

  pub last_cut : Reached before s t (CutsPart Trailers) × SourceEnded s t → AfterLine chunk.CutShort size count before ahead s t
  last_cut x line p len = (last_open line p x.0, x.1)

  pub last_failed : Reached before s t (CutsPart Trailers) × Rose s.faults t.faults → AfterLine chunk.Failed size count before ahead s t
  last_failed x line p len = (last_open line p x.0, x.1)

pub last_short : (n more : ℕ) (before ahead : List ℕ) (s t : SourceView) → Reached before s t (PartBy Trailers n more ahead) → more ≤ 4096
last_short n more before ahead s t x = let h = x.holds in let short = h.1.1 in omega (arith, short, h.2)
