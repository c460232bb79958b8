-- What reads of a body by chunks say, part by part.
use Rattle.std.proofs.Common.{arith, ◌≡◌, ◌<◌, ◌≤◌, inl, inr, ℕ, List, [], ◌∷◌, length, ◌+◌, ◌*◌, ◌++◌, take, drop, sym, ap, subst, refl, ◌∙◌, length-append, append_assoc, append-nil, length-take, length-drop, take-append-drop}
use Rattle.std.specs.Prelude.{codes, All}
use Rattle.std.proofs.lemmas.List.{drop_at, take_all}
use Rattle.std.proofs.lemmas.List.Elements.{All-nil, All-push}
use Rattle.std.proofs.lemmas.Grind.{flat_map-append}
use Rattle.engine_ports.specs.Rose.{Rose}
use Rattle.engine_ports.specs.Source.{SourceView, SourceEnded}
use Rattle.engine_ports.proofs.PortLemmas.{source_none, source_on}
use Rattle.http_edge.specs.Parts.{part_limit, part_window, IsPart, HasNoPart, NeverHasPart, MayBecomePart, RefusesPart, CutsPart}
use Rattle.http_edge.specs.Chunked.{Chunk, IsChunk, print_open, print_chunks, joined, RefusesNext, by_line, by_sum, by_end, by_trailers, CutsNext, in_line, in_chunk, in_end, in_trailers, RefusesChunks, CutsChunks}
use Rattle.http_edge.specs.Chunking.{PartBy, PartFacts, GrowSays, ChunkBy, LastBy, ChunkSays, BehindLine}
use Rattle.http_edge.specs.Bodies.{BodyBy}
use Rattle.http_edge.specs.Reading.{Fills, Reached, FillSays}
use Rattle.http_edge.specs.declared.framing.Framing.TheVariants.{Chunked}
use Rattle.http_edge.specs.declared.fill.Filled.{Filled}
use Rattle.http_edge.specs.declared.fill.Filled.TheVariants as filled
use Rattle.http_edge.specs.declared.parts.Part.{Part}
use Rattle.http_edge.specs.declared.parts.Part.TheVariants.{Line, End, Trailers}
use Rattle.http_edge.specs.declared.parts.PartParsed.TheVariants as parsed
use Rattle.http_edge.specs.declared.chunked.ChunkRead.{ChunkRead}
use Rattle.http_edge.specs.declared.chunked.ChunkRead.TheVariants as chunk
use Rattle.http_edge.proofs.ReadLemmas.{fills_on, reached, reached_on, reached_behind, ended_on, failed_on}

pub low_limit : (kind : Part) → part_limit kind ≤ 4096
low_limit Line = omega arith
low_limit End = omega arith
low_limit Trailers = omega arith

-- ---- a part

pub part_fits : (kind : Part) (got : List ℕ) (size count : ℕ) → PartFacts kind (parsed.Whole size count) (part_window kind got) → count ≤ length got
part_fits kind got size count x = omega (arith, x.3, ap length x.4, length-append x.0 x.1, length-take (part_limit kind) got)

module _ (kind : Part) (before got : List ℕ) (s t : SourceView) (f : Fills before got s t) where
  pub part_whole : (size count : ℕ) → PartFacts kind (parsed.Whole size count) (part_window kind got) → Reached before s t (PartBy kind size count (drop count got))
  part_whole size count x =
      let behind : List ℕ = x.1 ++ drop (part_limit kind) got in
      let all : got ≡ x.0 ++ behind = sym (take-append-drop (part_limit kind) got) ∙ ap (λ l. l ++ drop (part_limit kind) got) x.4
      ∙ append_assoc x.0 x.1 (drop (part_limit kind) got) in
      let rest : drop count got ≡ behind = ap (drop count) all ∙ drop_at x.0 behind count x.3 in
      let fits : length x.0 ≤ part_limit kind = omega (arith, ap length x.4, length-append x.0 x.1, length-take (part_limit kind) got) in
      reached before got s t (PartBy kind size count (drop count got)) f (x.0, (x.2, fits), x.3, all ∙ ap (λ l. x.0 ++ l) (sym rest))

  pub part_refused : NeverHasPart kind (part_window kind got) → Reached before s t (RefusesPart kind)
  part_refused never = reached before got s t (RefusesPart kind) f (inl never)

  pub part_long : part_limit kind ≤ length got → HasNoPart kind (part_window kind got) × MayBecomePart kind (part_window kind got) → Reached before s t (RefusesPart kind)
  part_long long x = reached before got s t (RefusesPart kind) f (inr (long, x.0))

  pub part_cut : (after : List ℕ) (u : SourceView) → length got < part_limit kind → HasNoPart kind (part_window kind got) × MayBecomePart kind (part_window kind got)
      → after ≡ got → Fills got after t u → Reached before s u (CutsPart kind)
  part_cut after u less x same g =
      let all : part_window kind got ≡ got = take_all (part_limit kind) got (omega (arith, less)) in
      let here = subst (λ w. HasNoPart kind w × MayBecomePart kind w) all x in
      reached before after s u (CutsPart kind) (fills_on before got after s t u f g) (subst (CutsPart kind) (sym same) (less, here.0, here.1))

-- ---- a body that grows

pub grown : (r : Filled) (size : ℕ) (before ahead old new : List ℕ) (s s' : SourceView) → take (length old) new ≡ old → length new ≡ length old + size
    → FillSays r before ahead (drop (length old) new) s s' → GrowSays r size before ahead old new s s'
grown filled.Whole size before ahead old new s s' front len x = (
  drop (length old) new,
  sym (take-append-drop (length old) new) ∙ ap (λ l. l ++ drop (length old) new) front,
  omega (arith, len, length-drop (length old) new),
  x,
)
grown filled.CutShort size before ahead old new s s' front len x =
    (reached_behind before before s s' _ (λ bytes. length bytes < size) (λ more less. omega (arith, less, len, length-drop (length old) new)) x.0, x.1)
grown filled.Failed size before ahead old new s s' front len x =
    (reached_behind before before s s' _ (λ bytes. length bytes < size) (λ more less. omega (arith, less, len, length-drop (length old) new)) x.0, x.1)

-- ---- a chunk

chunk_on : (r : ChunkRead) (before got ahead old new : List ℕ) (s t u : SourceView) → Fills before got s t → ChunkSays r got ahead old new t u → ChunkSays r before ahead old new s u
chunk_on (chunk.Chunk n) before got ahead old new s t u f x = reached_on before got s t u _ f x
chunk_on (chunk.Last n) before got ahead old new s t u f x = (x.0, reached_on before got s t u _ f x.1)
chunk_on (chunk.Refused n) before got ahead old new s t u f x = reached_on before got s t u _ f x
chunk_on chunk.CutShort before got ahead old new s t u f x = (reached_on before got s t u _ f x.0, ended_on before got s t u f x.1)
chunk_on chunk.Failed before got ahead old new s t u f x = (reached_on before got s t u _ f x.0, failed_on before got s t u f x.1)

-- its line was read, and what follows it
pub line_read : (r : ChunkRead) (size count : ℕ) (before mid ahead old new : List ℕ) (s t u : SourceView) → Reached before s t (PartBy Line size count mid)
    → BehindLine r size count mid ahead old new t u → ChunkSays r before ahead old new s u
line_read r size count before mid ahead old new s t u x behind =
    let h = x.holds in
    chunk_on r before (h.0 ++ mid) ahead old new s t u (record { read = x.read; gave = x.gave; grows = sym h.3 }) (behind h.0 h.1 h.2)

pub line_short : (size count : ℕ) (before mid : List ℕ) (s t : SourceView) → Reached before s t (PartBy Line size count mid) → count ≤ 256
line_short size count before mid s t x = let h = x.holds in let short = h.1.1 in omega (arith, short, h.2)

pub line_refused : (n : ℕ) (before : List ℕ) (s t : SourceView) → Reached before s t (RefusesPart Line) → Reached before s t (λ bytes. RefusesNext n bytes 400)
line_refused n before s t = reached_behind before before s t (RefusesPart Line) (λ bytes. RefusesNext n bytes 400) (λ more r. by_line refl r)

pub line_cut : (n : ℕ) (before : List ℕ) (s t : SourceView) → Reached before s t (CutsPart Line) → Reached before s t (CutsNext n)
line_cut n before s t = reached_behind before before s t (CutsPart Line) (CutsNext n) (λ more cut. in_line cut)

-- with it the body is too long
pub too_long : (size count : ℕ) (ahead old : List ℕ) (s : SourceView) → 1048576 < length old + size → BehindLine (chunk.Refused 413) size count ahead ahead old old s s
too_long size count ahead old s long line p len = record {
  read = [];
  gave = source_none s;
  holds = by_sum refl line (ahead ++ []) size p (append_assoc line ahead []) long;
}

-- it tells no bytes, and trailers follow
pub last_read : (count size more : ℕ) (before ahead body : List ℕ) (s t : SourceView) → Reached before s t (PartBy Trailers size more ahead)
    → BehindLine (chunk.Last (count + more)) 0 count before ahead body body s t
last_read count size more before ahead body s t x line p len = (
  refl,
  reached_behind (line ++ before) before s t (PartBy Trailers size more ahead) (LastBy (count + more) ahead)
      (λ rest q. (
        line,
        q.0,
        p,
        subst (λ n. IsPart Trailers q.0 n) q.1.0.4 q.1,
        omega (arith, len, q.2, length-append line q.0),
        append_assoc line before rest ∙ ap (λ l. line ++ l) q.3 ∙ sym (append_assoc line q.0 ahead),
      ))
      x,
)

pub last_short : (size more : ℕ) (before ahead : List ℕ) (s t : SourceView) → Reached before s t (PartBy Trailers size more ahead) → more ≤ 4096
last_short size more before ahead s t x = let h = x.holds in let short = h.1.1 in omega (arith, short, h.2)

pub last_refused : (count : ℕ) (before ahead body : List ℕ) (s t : SourceView) → Reached before s t (RefusesPart Trailers) → BehindLine (chunk.Refused 400) 0 count before ahead body body s t
last_refused count before ahead body s t x line p len =
    reached_behind (line ++ before) before s t (RefusesPart Trailers) (λ bytes. RefusesNext (length body) bytes 400)
    (λ more r. by_trailers refl line (before ++ more) p (append_assoc line before more) r) x

last_open : (before body line : List ℕ) (s t : SourceView) → IsPart Line line 0 → Reached before s t (CutsPart Trailers) → Reached (line ++ before) s t (CutsNext (length body))
last_open before body line s t p =
    reached_behind (line ++ before) before s t (CutsPart Trailers) (CutsNext (length body))
    (λ more cut. in_trailers line (before ++ more) p (append_assoc line before more) cut)

pub last_cut : (count : ℕ) (before ahead body : List ℕ) (s t : SourceView) → Reached before s t (CutsPart Trailers) × SourceEnded s t → BehindLine chunk.CutShort 0 count before ahead body body s t
last_cut count before ahead body s t x line p len = (last_open before body line s t p x.0, x.1)

pub last_failed : (count : ℕ) (before ahead body : List ℕ) (s t : SourceView) → Reached before s t (CutsPart Trailers) × Rose s.faults t.faults → BehindLine chunk.Failed 0 count before ahead body body s t
last_failed count before ahead body s t x line p len = (last_open before body line s t p x.0, x.1)

-- ---- the bytes of a chunk

module _ (size count : ℕ) (before old new : List ℕ) (s t : SourceView) (fits : length old + size ≤ 1048576) where
  piece_open : (line : List ℕ) → IsPart Line line size → Reached before s t (λ bytes. length bytes < size) → Reached (line ++ before) s t (CutsNext (length old))
  piece_open line p =
      reached_behind (line ++ before) before s t (λ bytes. length bytes < size) (CutsNext (length old))
      (λ more less. in_chunk line (before ++ more) size p fits (append_assoc line before more) less)

  pub piece_cut : (ahead : List ℕ) → Reached before s t (λ bytes. length bytes < size) × SourceEnded s t → BehindLine chunk.CutShort size count before ahead old new s t
  piece_cut ahead x line p len = (piece_open line p x.0, x.1)

  pub piece_failed : (ahead : List ℕ) → Reached before s t (λ bytes. length bytes < size) × Rose s.faults t.faults → BehindLine chunk.Failed size count before ahead old new s t
  piece_failed ahead x line p len = (piece_open line p x.0, x.1)

  -- they stand there, and then the line end
  module _ (mid : List ℕ) (some : 0 < size) (g : GrowSays filled.Whole size before mid old new s t) where
    abbrev the_chunk : List ℕ → Chunk
    the_chunk line = record { line = line; piece = g.0 }

    is_chunk : (line : List ℕ) → IsPart Line line size → IsChunk (the_chunk line)
    is_chunk line p = (omega (arith, some, g.2), subst (λ n. IsPart Line line n) (sym g.2) p)

    chunk_fits : length old + length g.0 ≤ 1048576
    chunk_fits = omega (arith, fits, g.2)

    behind_piece : (line : List ℕ) (u : SourceView) (Q R : List ℕ → Type 0) → ((more : List ℕ) → Q (mid ++ more) → R ((line ++ g.0) ++ (mid ++ more)))
        → Reached mid t u Q → Reached (line ++ before) s u R
    behind_piece line u Q R on y =
        let x = g.3 in
        let regroup : (line ++ before) ++ (x.read ++ y.read) ≡ (line ++ g.0) ++ (mid ++ y.read) =
        append_assoc line before (x.read ++ y.read)
        ∙ ap (λ l. line ++ l) (sym (append_assoc before x.read y.read) ∙ ap (λ l. l ++ y.read) x.holds ∙ append_assoc g.0 mid y.read)
        ∙ sym (append_assoc line g.0 (mid ++ y.read)) in
        record { read = x.read ++ y.read; gave = source_on s t u x.read y.read x.gave y.gave; holds = subst R (sym regroup) (on y.read y.holds) }

    pub piece_read : (n k : ℕ) (ahead : List ℕ) (u : SourceView) → Reached mid t u (PartBy End n k ahead) → BehindLine (chunk.Chunk (count + size + 2)) size count before ahead old new s u
    piece_read n k ahead u y line p len =
        behind_piece line u (PartBy End n k ahead) (ChunkBy old new (count + size + 2) ahead)
        (λ more q. (
          the_chunk line,
          is_chunk line p,
          g.1,
          omega (arith, ap length g.1, length-append old g.0, chunk_fits),
          omega (arith, len, g.2, length-append (line ++ g.0) (codes "\r\n"), length-append line g.0),
          ap (λ l. (line ++ g.0) ++ l) (q.3 ∙ ap (λ l. l ++ ahead) q.1.0.0) ∙ sym (append_assoc (line ++ g.0) (codes "\r\n") ahead),
        ))
        y

    pub end_refused : (ahead : List ℕ) (u : SourceView) → Reached mid t u (RefusesPart End) → BehindLine (chunk.Refused 400) size count before ahead old new s u
    end_refused ahead u y line p len =
        behind_piece line u (RefusesPart End) (λ bytes. RefusesNext (length old) bytes 400)
        (λ more r. by_end refl (the_chunk line) (mid ++ more) (is_chunk line p) chunk_fits refl r) y

    end_open : (line : List ℕ) (u : SourceView) → IsPart Line line size → Reached mid t u (CutsPart End) → Reached (line ++ before) s u (CutsNext (length old))
    end_open line u p y =
        behind_piece line u (CutsPart End) (CutsNext (length old)) (λ more cut. in_end (the_chunk line) (mid ++ more) (is_chunk line p) chunk_fits refl cut) y

    grew : Fills before (g.0 ++ mid) s t
    grew = let x = g.3 in record { read = x.read; gave = x.gave; grows = sym x.holds }

    pub end_cut : (ahead : List ℕ) (u : SourceView) → Reached mid t u (CutsPart End) × SourceEnded t u → BehindLine chunk.CutShort size count before ahead old new s u
    end_cut ahead u y line p len = (end_open line u p y.0, ended_on before (g.0 ++ mid) s t u grew y.1)

    pub end_failed : (ahead : List ℕ) (u : SourceView) → Reached mid t u (CutsPart End) × Rose t.faults u.faults → BehindLine chunk.Failed size count before ahead old new s u
    end_failed ahead u y line p len = (end_open line u p y.0, failed_on before (g.0 ++ mid) s t u grew y.1)

-- ---- the body

-- so many bytes were read, and are chunks that join to the body
abbrev pub HasRead : List ℕ → List ℕ → List ℕ → ℕ → SourceView → SourceView → Type 0
HasRead start ahead body count s s' =
    (cs : List Chunk) × All IsChunk cs × (body ≡ joined cs) × (length (print_chunks cs) ≡ count) × Fills start (print_chunks cs ++ ahead) s s'

pub none_read : (ahead : List ℕ) (s : SourceView) → HasRead ahead ahead [] 0 s s
none_read ahead s = ([], All-nil IsChunk, refl, refl, record { read = []; gave = source_none s; grows = sym (append-nil ahead) })

module _ (start mid old : List ℕ) (count : ℕ) (s t : SourceView) (h : HasRead start mid old count s t) where
  pub more_read : (ahead new : List ℕ) (more : ℕ) (u : SourceView) → Reached mid t u (ChunkBy old new more ahead) → HasRead start ahead new (count + more) s u
  more_read ahead new more u y =
      let k = y.holds in
      let front : List ℕ = print_chunks h.0 in
      let next : List ℕ = print_open k.0 ++ codes "\r\n" in
      let printed : print_chunks (h.0 ++ k.0 ∷ []) ≡ front ++ next =
      flat_map-append (λ c. print_open c ++ codes "\r\n") h.0 (k.0 ∷ []) ∙ ap (λ l. front ++ l) (append-nil next) in
      let pieces : joined (h.0 ++ k.0 ∷ []) ≡ joined h.0 ++ k.0.piece =
      flat_map-append (λ c. c.piece) h.0 (k.0 ∷ []) ∙ ap (λ l. joined h.0 ++ l) (append-nil k.0.piece) in
      let f = h.4 in (
        h.0 ++ k.0 ∷ [],
        All-push IsChunk h.0 k.0 h.1 k.1,
        k.2 ∙ ap (λ l. l ++ k.0.piece) h.2 ∙ sym pieces,
        omega (arith, ap length printed, length-append front next, h.3, k.4),
        record {
          read = f.read ++ y.read;
          gave = source_on s t u f.read y.read f.gave y.gave;
          grows = ap (λ l. l ++ ahead) printed ∙ append_assoc front next ahead ∙ ap (λ l. front ++ l) (sym k.5)
              ∙ sym (append_assoc front mid y.read) ∙ ap (λ l. l ++ y.read) f.grows ∙ append_assoc start f.read y.read;
        },
      )

  pub more_bound : (ahead new : List ℕ) (more : ℕ) (u : SourceView) → Reached mid t u (ChunkBy old new more ahead) → count ≤ 259 * length old
      → (length old < length new) × (length new ≤ 1048576) × (count + more ≤ 259 * length new)
  more_bound ahead new more u y le =
      let k = y.holds in
      let some = k.1.0 in
      let short = k.1.1.1 in
      let fits = k.3 in
      let grew : length new ≡ length old + length k.0.piece = omega (arith, ap length k.2, length-append old k.0.piece) in
      let made : more ≡ length k.0.line + length k.0.piece + 2 = omega (arith, k.4, length-append (print_open k.0) (codes "\r\n"), length-append k.0.line k.0.piece) in
      (omega (arith, grew, some), fits, omega (arith, grew, made, some, short, le))

  -- what is told of the bytes ahead is told of all
  read_on : (u : SourceView) (Q R : List ℕ → Type 0) → ((more : List ℕ) → Q (mid ++ more) → R ((print_chunks h.0 ++ mid) ++ more)) → Reached mid t u Q → Reached start s u R
  read_on u Q R on y = reached_on start (print_chunks h.0 ++ mid) s t u R h.4 (reached_behind (print_chunks h.0 ++ mid) mid t u Q R on y)

  module _ (fits : length old ≤ 1048576) where
    fits_joined : length (joined h.0) ≤ 1048576
    fits_joined = omega (arith, fits, ap length h.2)

    pub whole_read : (ahead new : List ℕ) (more : ℕ) (u : SourceView) → (new ≡ old) × Reached mid t u (LastBy more ahead) → Reached start s u (BodyBy Chunked new (count + more) ahead)
    whole_read ahead new more u y =
        read_on u (LastBy more ahead) (BodyBy Chunked new (count + more) ahead) (λ rest k.
        let coded : List ℕ = print_chunks h.0 ++ (k.0 ++ k.1) in (
          coded,
          record {
            chunks = h.0;
            last = k.0;
            trailers = k.1;
            begins = record { valid = h.1; fits = fits_joined; whole = refl };
            ends = k.2;
            trails = k.3;
            body_is = y.0 ∙ h.2;
          },
          omega (arith, length-append (print_chunks h.0) (k.0 ++ k.1), h.3, k.4),
          append_assoc (print_chunks h.0) mid rest ∙ ap (λ l. print_chunks h.0 ++ l) k.5 ∙ sym (append_assoc (print_chunks h.0) (k.0 ++ k.1) ahead),
        ))
        y.1

    pub refused_read : (status : ℕ) (u : SourceView) → Reached mid t u (λ bytes. RefusesNext (length old) bytes status) → Reached start s u (λ bytes. RefusesChunks bytes status)
    refused_read status u = read_on u (λ bytes. RefusesNext (length old) bytes status) (λ bytes. RefusesChunks bytes status) (λ rest r. (
      h.0,
      mid ++ rest,
      record { valid = h.1; fits = fits_joined; whole = append_assoc (print_chunks h.0) mid rest },
      subst (λ l. RefusesNext (length l) (mid ++ rest) status) h.2 r,
    ))

    pub cut_read : (u : SourceView) → Reached mid t u (CutsNext (length old)) → Reached start s u CutsChunks
    cut_read u = read_on u (CutsNext (length old)) CutsChunks (λ rest cut. (
      h.0,
      mid ++ rest,
      record { valid = h.1; fits = fits_joined; whole = append_assoc (print_chunks h.0) mid rest },
      subst (λ l. CutsNext (length l) (mid ++ rest)) h.2 cut,
    ))

  pub ended_read : (u : SourceView) → SourceEnded t u → SourceEnded s u
  ended_read u e = ended_on start (print_chunks h.0 ++ mid) s t u h.4 e

  pub failed_read : (u : SourceView) → Rose t.faults u.faults → Rose s.faults u.faults
  failed_read u e = failed_on start (print_chunks h.0 ++ mid) s t u h.4 e
