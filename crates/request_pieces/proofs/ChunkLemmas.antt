-- A body by chunks that is read from pieces.
use Rattle.std.proofs.Common.{arith, ◌≡◌, ◌<◌, ◌≤◌, inr, ℕ, List, [], ◌∷◌, length, ◌+◌, ◌++◌, sym, ap, subst, refl, ◌∙◌, length-append, append_assoc, append-nil}
use Rattle.std.specs.Prelude.{codes, Bool, true, false}
use Rattle.std.proofs.lemmas.List.{append_cancel_right}
use Rattle.std.proofs.lemmas.List.Elements.{All-push}
use Rattle.std.proofs.lemmas.Grind.{flat_map-append}
use Rattle.httparse.specs.Grammar.{print_chunk_line, print_extension, print_end, crlf}
use Rattle.httparse.specs.declared.spans.RequestSpans.{RequestSpans}
use Rattle.engine_ports.specs.Source.{SourceView}
use Rattle.http_edge.specs.Chunked.{Chunk, IsChunk, print_open, print_chunks, joined, BeginsWithChunks, SpellsChunks, RefusesNext, by_line, by_sum, by_end, by_trailers, CutsNext, in_line, in_chunk, in_end, in_trailers, RefusesChunks, CutsChunks}
use Rattle.http_edge.specs.Chunking.{PartBy, PartSays}
use Rattle.http_edge.specs.Parts.{IsPart, RefusesPart, CutsPart}
use Rattle.http_edge.specs.Reading.{Reached}
use Rattle.http_edge.specs.Refusal.{IsUnfinished}
use Rattle.http_edge.specs.Stored.{Stored}
use Rattle.http_edge.specs.declared.framing.Framing.TheVariants.{Chunked}
use Rattle.http_edge.specs.declared.parts.Part.{Part}
use Rattle.http_edge.specs.declared.parts.Part.TheVariants as part
use Rattle.http_edge.specs.declared.parts.PartRead.TheVariants.{CutShort}
use Rattle.http_edge.proofs.ReadLemmas.{reached_behind}
use Rattle.http_edge.proofs.RoomLemmas.{end_takes}
use Rattle.request_pieces.specs.Pieces.{view_of, left_of}
use Rattle.request_pieces.specs.Standing.{KeepsHead, AreChunks, HasRead}
use Rattle.request_pieces.specs.Taking.{StepOf, StepSays, GoesOn, GrowSays, LineSays, Shows}
use Rattle.request_pieces.specs.declared.source.Piece.{Piece}
use Rattle.request_pieces.specs.declared.standing.Inside.TheVariants.{Head, Body, Chunks}
use Rattle.request_pieces.specs.declared.standing.ChunkAt.{ChunkAt}
use Rattle.request_pieces.specs.declared.standing.ChunkAt.TheVariants.{Line, Bytes, End, Trailers}
use Rattle.request_pieces.specs.declared.standing.Came.TheVariants.{Whole, Refused, Awaits}
use Rattle.request_pieces.specs.declared.standing.Step.{Step}
use Rattle.request_pieces.specs.declared.standing.Step.TheVariants.{On, Ends}
use Rattle.request_pieces.proofs.KeepLemmas.{keeps_on, keeps_refused, keeps_cut, keeps_shows}
use Rattle.request_pieces.proofs.BodyLemmas.{longer, regrouped}

-- ---- whole chunks, and what follows them

begins_on : (front behind : List ℕ) (chunks : List Chunk) → BeginsWithChunks front chunks [] → BeginsWithChunks (front ++ behind) chunks behind
begins_on front behind chunks x = record {
  valid = x.valid;
  fits = x.fits;
  whole = ap (λ l. l ++ behind) (x.whole ∙ append-nil (print_chunks chunks));
}

pub chunks_refused : (front body behind : List ℕ) (status : ℕ) → AreChunks front body → RefusesNext (length body) behind status → RefusesChunks (front ++ behind) status
chunks_refused front body behind status a x =
    (a.0, behind, begins_on front behind a.0 a.1, subst (λ l. RefusesNext (length l) behind status) a.2 x)

pub chunks_cut : (front body behind : List ℕ) → AreChunks front body → CutsNext (length body) behind → CutsChunks (front ++ behind)
chunks_cut front body behind a x = (a.0, behind, begins_on front behind a.0 a.1, subst (λ l. CutsNext (length l) behind) a.2 x)

pub chunks_fit : (front body : List ℕ) → AreChunks front body → length body ≤ 1048576
chunks_fit front body a = let b = a.1 in let fits = b.fits in omega (arith, fits, ap length a.2)

-- one chunk more
pub chunks_more : (front old : List ℕ) (c : Chunk) → AreChunks front old → IsChunk c → length (old ++ c.piece) ≤ 1048576
    → AreChunks ((front ++ print_open c) ++ codes "\r\n") (old ++ c.piece)
chunks_more front old c a valid fits =
    let x = a.1 in
    let next : List ℕ = print_open c ++ codes "\r\n" in
    let printed : print_chunks (a.0 ++ c ∷ []) ≡ print_chunks a.0 ++ next =
    flat_map-append (λ d. print_open d ++ codes "\r\n") a.0 (c ∷ []) ∙ ap (λ l. print_chunks a.0 ++ l) (append-nil next) in
    let pieces : joined (a.0 ++ c ∷ []) ≡ joined a.0 ++ c.piece =
    flat_map-append (λ d. d.piece) a.0 (c ∷ []) ∙ ap (λ l. joined a.0 ++ l) (append-nil c.piece) in
    let all : old ++ c.piece ≡ joined (a.0 ++ c ∷ []) = ap (λ l. l ++ c.piece) a.2 ∙ sym pieces in (
      a.0 ++ c ∷ [],
      record {
        valid = All-push IsChunk a.0 c x.valid valid;
        fits = omega (arith, fits, ap length all);
        whole = append_assoc front (print_open c) (codes "\r\n") ∙ ap (λ l. l ++ next) (x.whole ∙ append-nil (print_chunks a.0)) ∙ sym printed
            ∙ sym (append-nil (print_chunks (a.0 ++ c ∷ [])));
      },
      all,
    )

-- ---- a part that was read

-- the piece ended inside a part
pub part_ended : (kind : Part) (ahead ahead' : List ℕ) (p q : Piece) → PartSays kind CutShort ahead ahead' (view_of p) (view_of q)
    → Reached ahead (view_of p) (view_of q) (λ all. (all ≡ ahead') × CutsPart kind all) × (q.rest.now ≡ [])
part_ended kind ahead ahead' p q x =
    let cut = x.0 in
    let e = x.1 in
    let f = x.2 in
    let a = cut.gave in
    let b = f.gave in
    let same : cut.read ≡ f.read = append_cancel_right cut.read f.read q.rest.now (sym a.gave ∙ b.gave) in (
      record { read = cut.read; gave = cut.gave; holds = (ap (λ l. ahead ++ l) same ∙ sym f.grows, cut.holds) },
      e.spent,
    )

-- a chunk's line and the line end behind a chunk take some bytes
pub line_some : (text : List ℕ) (size : ℕ) → IsPart part.Line text size → 0 < length text
unfolding print_chunk_line
line_some text size p =
    let line = p.0.0 in
    omega (arith, ap length p.0.2, end_takes crlf, length-append (line.digits ++ line.pad ++ print_extension line.extension) (print_end crlf))

pub end_some : (text : List ℕ) (size : ℕ) → IsPart part.End text size → 0 < length text
end_some text size p = omega (arith, ap length p.0.0)

-- fewer bytes are left behind such a part
part_less : (kind : Part) (some : (text : List ℕ) (size : ℕ) → IsPart kind text size → 0 < length text) (size count : ℕ) (ahead ahead' : List ℕ) (p q : Piece)
    → Reached ahead (view_of p) (view_of q) (PartBy kind size count ahead') → left_of ahead' q < left_of ahead p
part_less kind some size count ahead ahead' p q x =
    let y = x.holds in
    let g = x.gave in
    let gave = g.gave in
    omega (arith, some y.0 size y.1, ap length y.3, length-append y.0 ahead', length-append ahead x.read, ap length gave, length-append x.read q.rest.now)

pub line_less : (step : Step) (size count : ℕ) (ahead ahead' : List ℕ) (p q : Piece) → Reached ahead (view_of p) (view_of q) (PartBy part.Line size count ahead')
    → GoesOn step (left_of ahead p) (left_of ahead' q)
line_less (On inside) size count ahead ahead' p q x = part_less part.Line line_some size count ahead ahead' p q x
line_less (Ends came) size count ahead ahead' p q x = tt

pub end_less : (size count : ℕ) (ahead ahead' : List ℕ) (p q : Piece) → Reached ahead (view_of p) (view_of q) (PartBy part.End size count ahead')
    → left_of ahead' q < left_of ahead p
end_less size count ahead ahead' p q x = part_less part.End end_some size count ahead ahead' p q x

-- fewer bytes are left where a body grew
pub grown_less : (whole : Bool) (until : ℕ) (old new ahead ahead' : List ℕ) (p q : Piece) → length old < until → length new ≡ until
    → GrowSays whole until old new ahead ahead' (view_of p) (view_of q) → left_of ahead' q < left_of ahead p
grown_less whole until old new ahead ahead' p q less len g =
    let x = g.2 in
    let y = x.gave in
    let gave = y.gave in
    omega (arith, less, len, ap length g.1, length-append old g.0, ap length x.holds, length-append ahead x.read, length-append g.0 ahead', ap length gave, length-append x.read q.rest.now)

-- ---- in a body by chunks

module _ (r : RequestSpans) (b : Stored) (ahead ahead' : List ℕ) (s s' : SourceView) where
  -- what was read of a part, of all the bytes
  on_part : (at : ChunkAt) (step : Step) (P : List ℕ → Type 0) → Reached ahead s s' P
      → ((read all : List ℕ) → KeepsHead b r Chunked → HasRead at read b.body → P all → StepOf step b ahead' s' (b.head ++ (read ++ all)))
      → StepSays step (Chunks r at) b ahead b ahead' s s'
  on_part at step P x on bytes h =
      reached_behind bytes ahead s s' P (StepOf step b ahead' s')
      (λ more p. subst (StepOf step b ahead' s') (sym (ap (λ l. l ++ more) h.3 ∙ longer b.head h.0 ahead more)) (on h.0 (ahead ++ more) h.1 h.2 p)) x

  refused : (read all : List ℕ) (status : ℕ) → KeepsHead b r Chunked → RefusesChunks (read ++ all) status → StepOf (Ends (Refused status)) b ahead' s' (b.head ++ (read ++ all))
  refused read all status k x = keeps_refused b r Chunked k (read ++ all) status x

  -- a chunk's line
  pub line_whole : (step : Step) (size count : ℕ) → Reached ahead s s' (PartBy part.Line size count ahead') → LineSays step r (length b.body) size
      → StepSays step (Chunks r Line) b ahead b ahead' s s'
  line_whole (On (Chunks q Trailers)) size count x says =
      on_part Line (On (Chunks q Trailers)) (PartBy part.Line size count ahead') x
      (λ read all k has y. (
        read ++ y.0,
        subst (λ t. KeepsHead b t Chunked) (sym says.0) k,
        (read, y.0, has, subst (IsPart part.Line y.0) says.1 y.1, refl),
        regrouped b.head read all y.0 ahead' y.3,
      ))
  line_whole (On (Chunks q (Bytes until))) size count x says =
      on_part Line (On (Chunks q (Bytes until))) (PartBy part.Line size count ahead') x
      (λ read all k has y. (
        read ++ y.0,
        subst (λ t. KeepsHead b t Chunked) (sym says.0) k,
        (read, b.body, y.0, [], size, has, y.1, says.1, says.2, says.3, ap (λ l. read ++ l) (sym (append-nil y.0)), sym (append-nil b.body)),
        regrouped b.head read all y.0 ahead' y.3,
      ))
  line_whole (Ends (Refused status)) size count x says =
      on_part Line (Ends (Refused status)) (PartBy part.Line size count ahead') x
      (λ read all k has y. refused read all status k (chunks_refused read b.body all status has (by_sum says.0 y.0 ahead' size y.1 y.3 says.1)))
  line_whole (On Head) size count x says = absurd says
  line_whole (On (Body q n)) size count x says = absurd says
  line_whole (On (Chunks q Line)) size count x says = absurd says
  line_whole (On (Chunks q End)) size count x says = absurd says
  line_whole (Ends (Whole q)) size count x says = absurd says
  line_whole (Ends (Awaits i)) size count x says = absurd says

  pub line_refused : Reached ahead s s' (RefusesPart part.Line) → StepSays (Ends (Refused 400)) (Chunks r Line) b ahead b ahead' s s'
  line_refused x =
      on_part Line (Ends (Refused 400)) (RefusesPart part.Line) x
      (λ read all k has y. refused read all 400 k (chunks_refused read b.body all 400 has (by_line refl y)))

  -- the line end behind a chunk
  pub end_whole : (size count : ℕ) → Reached ahead s s' (PartBy part.End size count ahead') → StepSays (On (Chunks r Line)) (Chunks r End) b ahead b ahead' s s'
  end_whole size count x =
      on_part End (On (Chunks r Line)) (PartBy part.End size count ahead') x
      (λ read all k has y.
      let chunk = has.2 in
      let fits = has.5 in
      let more = chunks_more has.0 has.1 chunk has.3 has.4 (omega (arith, fits, ap length has.7)) in
      let text : y.0 ≡ codes "\r\n" = y.1.0.0 in (
        read ++ y.0,
        k,
        subst (λ l. AreChunks l b.body) (sym (ap (λ l. l ++ y.0) has.6 ∙ ap (λ l. (has.0 ++ print_open chunk) ++ l) text))
            (subst (AreChunks ((has.0 ++ print_open chunk) ++ codes "\r\n")) (sym has.7) more),
        regrouped b.head read all y.0 ahead' y.3,
      ))

  end_fits : (read : List ℕ) (has : HasRead End read b.body) → length has.1 + length (has.2).piece ≤ 1048576
  end_fits read has = let chunk = has.2 in let fits = has.5 in omega (arith, fits, ap length has.7, length-append has.1 chunk.piece)

  end_bytes : (read all : List ℕ) (has : HasRead End read b.body) → read ++ all ≡ has.0 ++ (print_open has.2 ++ all)
  end_bytes read all has = ap (λ l. l ++ all) has.6 ∙ append_assoc has.0 (print_open has.2) all

  pub end_refused : Reached ahead s s' (RefusesPart part.End) → StepSays (Ends (Refused 400)) (Chunks r End) b ahead b ahead' s s'
  end_refused x =
      on_part End (Ends (Refused 400)) (RefusesPart part.End) x
      (λ read all k has y. refused read all 400 k
      (subst (λ l. RefusesChunks l 400) (sym (end_bytes read all has))
      (chunks_refused has.0 has.1 (print_open has.2 ++ all) 400 has.3 (by_end refl has.2 all has.4 (end_fits read has) refl y))))

  -- the trailers
  trailers_bytes : (read all : List ℕ) (has : HasRead Trailers read b.body) → read ++ all ≡ has.0 ++ (has.1 ++ all)
  trailers_bytes read all has = ap (λ l. l ++ all) has.4 ∙ append_assoc has.0 has.1 all

  pub trailers_refused : Reached ahead s s' (RefusesPart part.Trailers) → StepSays (Ends (Refused 400)) (Chunks r Trailers) b ahead b ahead' s s'
  trailers_refused x =
      on_part Trailers (Ends (Refused 400)) (RefusesPart part.Trailers) x
      (λ read all k has y. refused read all 400 k
      (subst (λ l. RefusesChunks l 400) (sym (trailers_bytes read all has))
      (chunks_refused has.0 b.body (has.1 ++ all) 400 has.2 (by_trailers refl has.1 all has.3 refl y))))

  pub trailers_whole : (size count : ℕ) → Reached ahead s s' (PartBy part.Trailers size count ahead') → StepSays (Ends (Whole r)) (Chunks r Trailers) b ahead b ahead' s s'
  trailers_whole size count x =
      on_part Trailers (Ends (Whole r)) (PartBy part.Trailers size count ahead') x
      (λ read all k has y.
      let a = has.2 in
      let spells : SpellsChunks (read ++ y.0) b.body = record {
        chunks = a.0;
        last = has.1;
        trailers = y.0;
        begins = subst (λ l. BeginsWithChunks l a.0 (has.1 ++ y.0)) (sym (trailers_bytes read y.0 has)) (begins_on has.0 (has.1 ++ y.0) a.0 a.1);
        ends = has.3;
        trails = subst (IsPart part.Trailers y.0) y.1.0.4 y.1;
        body_is = a.2;
      } in
      subst (Shows b r ahead') (sym (regrouped b.head read all y.0 ahead' y.3)) (keeps_shows b r Chunked k (read ++ y.0) ahead' spells))

  -- more of a part is awaited
  waits : (at : ChunkAt) (kind : Part) (spent : Rattle.engine_ports.specs.Source.IsSpent s'.left)
      → ((read all : List ℕ) → HasRead at read b.body → CutsPart kind all → CutsChunks (read ++ all))
      → Reached ahead s s' (λ all. (all ≡ ahead') × CutsPart kind all) → StepSays (Ends (Awaits (Chunks r at))) (Chunks r at) b ahead b ahead' s s'
  waits at kind spent cuts x =
      on_part at (Ends (Awaits (Chunks r at))) (λ all. (all ≡ ahead') × CutsPart kind all) x
      (λ read all k has y. (
        (read, k, has, ap (λ l. b.head ++ (read ++ l)) y.0),
        inr (keeps_cut b r Chunked k (read ++ all) (cuts read all has y.1)),
        spent,
      ))

  pub line_waits : Rattle.engine_ports.specs.Source.IsSpent s'.left → Reached ahead s s' (λ all. (all ≡ ahead') × CutsPart part.Line all)
      → StepSays (Ends (Awaits (Chunks r Line))) (Chunks r Line) b ahead b ahead' s s'
  line_waits spent = waits Line part.Line spent (λ read all has y. chunks_cut read b.body all has (in_line y))

  pub end_waits : Rattle.engine_ports.specs.Source.IsSpent s'.left → Reached ahead s s' (λ all. (all ≡ ahead') × CutsPart part.End all)
      → StepSays (Ends (Awaits (Chunks r End))) (Chunks r End) b ahead b ahead' s s'
  end_waits spent =
      waits End part.End spent
      (λ read all has y.
      subst CutsChunks (sym (end_bytes read all has))
      (chunks_cut has.0 has.1 (print_open has.2 ++ all) has.3 (in_end has.2 all has.4 (end_fits read has) refl y)))

  pub trailers_wait : Rattle.engine_ports.specs.Source.IsSpent s'.left → Reached ahead s s' (λ all. (all ≡ ahead') × CutsPart part.Trailers all)
      → StepSays (Ends (Awaits (Chunks r Trailers))) (Chunks r Trailers) b ahead b ahead' s s'
  trailers_wait spent =
      waits Trailers part.Trailers spent
      (λ read all has y.
      subst CutsChunks (sym (trailers_bytes read all has)) (chunks_cut has.0 b.body (has.1 ++ all) has.2 (in_trailers has.1 all has.3 refl y)))

-- ---- in a chunk

module _ (r : RequestSpans) (until : ℕ) (b c : Stored) (ahead ahead' : List ℕ) (s s' : SourceView) (heads : c.head ≡ b.head) (spans : c.spans ≡ b.spans) where
  all_bytes : (bytes read taken more : List ℕ) → bytes ≡ b.head ++ (taken ++ ahead) → ahead ++ read ≡ more ++ ahead' → bytes ++ read ≡ c.head ++ ((taken ++ more) ++ ahead')
  all_bytes bytes read taken more is e =
      ap (λ l. l ++ read) is ∙ longer b.head taken ahead read ∙ regrouped b.head taken (ahead ++ read) more ahead' e
      ∙ ap (λ l. l ++ ((taken ++ more) ++ ahead')) (sym heads)

  -- the bytes of the chunk, of which more were read
  chunk_bytes : (taken more : List ℕ) (has : HasRead (Bytes until) taken b.body) → taken ++ more ≡ has.0 ++ (has.2 ++ (has.3 ++ more))
  chunk_bytes taken more has =
      ap (λ l. l ++ more) has.10 ∙ append_assoc has.0 (has.2 ++ has.3) more ∙ ap (λ l. has.0 ++ l) (append_assoc has.2 has.3 more)

  chunk_body : (taken more : List ℕ) (has : HasRead (Bytes until) taken b.body) → c.body ≡ b.body ++ more → c.body ≡ has.1 ++ (has.3 ++ more)
  chunk_body taken more has grew = grew ∙ ap (λ l. l ++ more) has.11 ∙ append_assoc has.1 has.3 more

  pub chunk_whole : GrowSays true until b.body c.body ahead ahead' s s' → StepSays (On (Chunks r End)) (Chunks r (Bytes until)) b ahead c ahead' s s'
  chunk_whole g bytes h =
      let x = g.2 in
      let has = h.2 in
      let body = chunk_body h.0 g.0 has g.1 in
      let piece : List ℕ = has.3 ++ g.0 in
      let size : length piece ≡ has.4 = omega (arith, ap length body, length-append has.1 piece, g.3, has.8) in
      let chunk : Chunk = record { line = has.2; piece = piece } in
      let some = has.7 in
      let fits = has.9 in
      let print : has.0 ++ (has.2 ++ piece) ≡ has.0 ++ print_open chunk = refl in
      record {
        read = x.read;
        gave = x.gave;
        holds = (
          h.0 ++ g.0,
          keeps_on b c r Chunked heads spans h.1,
          (
            has.0,
            has.1,
            chunk,
            has.5,
            (omega (arith, some, size), subst (IsPart part.Line has.2) (sym size) has.6),
            omega (arith, fits, g.3),
            chunk_bytes h.0 g.0 has ∙ print,
            body,
          ),
          all_bytes bytes x.read h.0 g.0 h.3 x.holds,
        );
      }

  pub chunk_part : GrowSays false until b.body c.body ahead ahead' s s' → StepSays (Ends (Awaits (Chunks r (Bytes until)))) (Chunks r (Bytes until)) b ahead c ahead' s s'
  chunk_part g bytes h =
      let x = g.2 in
      let has = h.2 in
      let body = chunk_body h.0 g.0 has g.1 in
      let piece : List ℕ = has.3 ++ g.0 in
      let less = g.3.0 in
      let fewer : length piece < has.4 = omega (arith, ap length body, length-append has.1 piece, less, has.8) in
      let fits = has.9 in
      let k = keeps_on b c r Chunked heads spans h.1 in
      let now = all_bytes bytes x.read h.0 g.0 h.3 x.holds in
      let tail : (h.0 ++ g.0) ++ ahead' ≡ has.0 ++ (has.2 ++ piece) =
      ap (λ l. (h.0 ++ g.0) ++ l) g.3.1 ∙ append-nil (h.0 ++ g.0) ∙ chunk_bytes h.0 g.0 has in
      let cut : CutsChunks ((h.0 ++ g.0) ++ ahead') =
      subst CutsChunks (sym tail)
      (chunks_cut has.0 has.1 (has.2 ++ piece) has.5 (in_chunk has.2 piece has.4 has.6 (omega (arith, fits, has.8)) refl fewer)) in
      record {
        read = x.read;
        gave = x.gave;
        holds = (
          (h.0 ++ g.0, k, (has.0, has.1, has.2, piece, has.4, has.5, has.6, fewer, has.8, has.9, chunk_bytes h.0 g.0 has, body), now),
          inr (subst IsUnfinished (sym now) (keeps_cut c r Chunked k ((h.0 ++ g.0) ++ ahead') cut)),
          g.3.2,
        );
      }

-- the body has fewer bytes than the chunk tells, and no more than a body may have
pub chunk_open : (until : ℕ) (read body : List ℕ) → HasRead (Bytes until) read body → (length body < until) × (until ≤ 1048576)
chunk_open until read body has = let less = has.7 in (omega (arith, less, has.8, ap length has.11, length-append has.1 has.3), has.9)
