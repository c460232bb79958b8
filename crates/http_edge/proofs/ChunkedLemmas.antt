-- Bytes spell one body by chunks at most, and none where they are refused or cut.
use Rattle.std.proofs.Common.{arith, ◌≡◌, ◌≤◌, ℕ, List, [], ◌∷◌, ◌++◌, length, ◌+◌, sym, ap, subst, refl, ◌∙◌, append_assoc, length-append}
use Rattle.std.specs.Prelude.{codes, All}
use Rattle.std.proofs.lemmas.List.Elements.{All-head, All-tail}
use Rattle.http_edge.specs.Parts.{IsPart}
use Rattle.http_edge.specs.Chunked.{Chunk, IsChunk, print_open, print_chunks, joined, SpellsChunks, RefusesNext, by_line, by_sum, by_end, by_trailers, CutsNext, in_line, in_chunk, in_end, in_trailers, RefusesChunks, CutsChunks}
use Rattle.http_edge.specs.declared.parts.Part.TheVariants.{Line, End, Trailers}
use Rattle.http_edge.proofs.PartLemmas.{same_parts, part_unique, refused_part, cut_part, refused_longer}

-- a chunk, and what stands behind it
pub opened : (c : Chunk) (cs : List Chunk) (x : List ℕ) → print_chunks (c ∷ cs) ++ x ≡ print_open c ++ (codes "\r\n" ++ (print_chunks cs ++ x))
opened c cs x =
    append_assoc (print_open c ++ codes "\r\n") (print_chunks cs) x ∙ append_assoc (print_open c) (codes "\r\n") (print_chunks cs ++ x)

pub same_chunk : (c d : Chunk) (x y : List ℕ) → IsChunk c → IsChunk d → print_open c ++ x ≡ print_open d ++ y → (c ≡ d) × (x ≡ y)
same_chunk c d x y p q e =
    let lines = part_unique Line c.line d.line (c.piece ++ x) (d.piece ++ y) (length c.piece) (length d.piece) p.1.0 q.1.0
    (sym (append_assoc c.line c.piece x) ∙ e ∙ append_assoc d.line d.piece y) in
    let pieces = same_parts c.piece d.piece x y lines.1 lines.2 in
    (λ i. record { line = lines.0 i; piece = pieces.0 i }, pieces.1)

-- the line of a chunk tells some bytes, and the last one none
pub not_last : (c : Chunk) (last x y : List ℕ) → IsChunk c → IsPart Line last 0 → print_open c ++ x ≡ last ++ y → ⊥
not_last c last x y p q e =
    let some = p.0 in
    let same = part_unique Line c.line last (c.piece ++ x) y (length c.piece) 0 p.1.0 q.0 (sym (append_assoc c.line c.piece x) ∙ e) in
    let none = same.1 in
    omega (arith, some, none)

-- the bytes are a body behind so many bytes of it, and then these
pub record HasBody (before : ℕ) (bytes : List ℕ) : Type 0 where
  pub chunks : List Chunk
  pub last : List ℕ
  pub trailers : List ℕ
  pub rest : List ℕ
  pub valid : All IsChunk chunks
  pub fits : before + length (joined chunks) ≤ 1048576
  pub ends : IsPart Line last 0
  pub trails : IsPart Trailers trailers 0
  pub whole : bytes ≡ print_chunks chunks ++ ((last ++ trailers) ++ rest)

-- where a body's first part is the last line
module _ (before : ℕ) (bytes last trailers rest : List ℕ) (fits : before + 0 ≤ 1048576) (ends : IsPart Line last 0) (trails : IsPart Trailers trailers 0)
    (whole : bytes ≡ (last ++ trailers) ++ rest) where
  at_last : bytes ≡ last ++ (trailers ++ rest)
  at_last = whole ∙ append_assoc last trailers rest

  last_refused : (status : ℕ) → RefusesNext before bytes status → ⊥
  last_refused status (by_line is r) = refused_part Line bytes last (trailers ++ rest) 0 r ends at_last
  last_refused status (by_sum is line behind size p e long) =
      let same = part_unique Line line last behind (trailers ++ rest) size 0 p.0 ends.0 (sym e ∙ at_last) in
      let zero = same.1 in
      omega (arith, zero, long, fits)
  last_refused status (by_end is c behind p le e r) = not_last c last behind (trailers ++ rest) p ends (sym e ∙ at_last)
  last_refused status (by_trailers is l behind p e r) =
      let same = part_unique Line l last behind (trailers ++ rest) 0 0 p.0 ends.0 (sym e ∙ at_last) in
      refused_part Trailers behind trailers rest 0 r trails same.2

  last_cut : CutsNext before bytes → ⊥
  last_cut (in_line cut) = cut_part Line bytes last (trailers ++ rest) 0 cut ends at_last
  last_cut (in_chunk line behind size p le e less) =
      let same = part_unique Line line last behind (trailers ++ rest) size 0 p.0 ends.0 (sym e ∙ at_last) in
      let zero = same.1 in
      omega (arith, zero, less)
  last_cut (in_end c behind p le e cut) = not_last c last behind (trailers ++ rest) p ends (sym e ∙ at_last)
  last_cut (in_trailers l behind p e cut) =
      let same = part_unique Line l last behind (trailers ++ rest) 0 0 p.0 ends.0 (sym e ∙ at_last) in
      cut_part Trailers behind trailers rest 0 cut trails same.2

-- where it is a chunk
module _ (before : ℕ) (bytes : List ℕ) (d : Chunk) (after : List ℕ) (valid : IsChunk d) (fits : before + length d.piece ≤ 1048576)
    (whole : bytes ≡ print_open d ++ (codes "\r\n" ++ after)) where
  at_chunk : bytes ≡ d.line ++ (d.piece ++ (codes "\r\n" ++ after))
  at_chunk = whole ∙ append_assoc d.line d.piece (codes "\r\n" ++ after)

  pub chunk_refused : (status : ℕ) → RefusesNext before bytes status → ⊥
  chunk_refused status (by_line is r) = refused_part Line bytes d.line (d.piece ++ (codes "\r\n" ++ after)) (length d.piece) r valid.1 at_chunk
  chunk_refused status (by_sum is line behind size p e long) =
      let same = part_unique Line line d.line behind (d.piece ++ (codes "\r\n" ++ after)) size (length d.piece) p.0 valid.1.0 (sym e ∙ at_chunk) in
      let size_is = same.1 in
      omega (arith, size_is, long, fits)
  chunk_refused status (by_end is c behind p le e r) =
      let same = same_chunk c d behind (codes "\r\n" ++ after) p valid (sym e ∙ whole) in
      refused_part End behind (codes "\r\n") after 0 r ((refl, refl), omega arith) same.1
  chunk_refused status (by_trailers is l behind p e r) = not_last d l (codes "\r\n" ++ after) behind valid p (sym whole ∙ e)

  pub chunk_cut : CutsNext before bytes → ⊥
  chunk_cut (in_line cut) = cut_part Line bytes d.line (d.piece ++ (codes "\r\n" ++ after)) (length d.piece) cut valid.1 at_chunk
  chunk_cut (in_chunk line behind size p le e less) =
      let same = part_unique Line line d.line behind (d.piece ++ (codes "\r\n" ++ after)) size (length d.piece) p.0 valid.1.0 (sym e ∙ at_chunk) in
      let size_is = same.1 in
      omega (arith, size_is, less, ap length same.2, length-append d.piece (codes "\r\n" ++ after))
  chunk_cut (in_end c behind p le e cut) =
      let same = same_chunk c d behind (codes "\r\n" ++ after) p valid (sym e ∙ whole) in
      cut_part End behind (codes "\r\n") after 0 cut ((refl, refl), omega arith) same.1
  chunk_cut (in_trailers l behind p e cut) = not_last d l (codes "\r\n" ++ after) behind valid p (sym whole ∙ e)

next_refused : (status : ℕ) (ds : List Chunk) (before : ℕ) (bytes last trailers rest : List ℕ) → RefusesNext before bytes status
    → All IsChunk ds → before + length (joined ds) ≤ 1048576 → IsPart Line last 0 → IsPart Trailers trailers 0 → bytes ≡ print_chunks ds ++ ((last ++ trailers) ++ rest) → ⊥
next_refused status [] before bytes last trailers rest r valid fits ends trails whole = last_refused before bytes last trailers rest fits ends trails whole status r
next_refused status (d ∷ ds) before bytes last trailers rest r valid fits ends trails whole =
    chunk_refused before bytes d (print_chunks ds ++ ((last ++ trailers) ++ rest)) (All-head IsChunk d ds valid)
    (omega (arith, fits, length-append d.piece (joined ds))) (whole ∙ opened d ds ((last ++ trailers) ++ rest)) status r

next_cut : (ds : List Chunk) (before : ℕ) (bytes last trailers rest : List ℕ) → CutsNext before bytes
    → All IsChunk ds → before + length (joined ds) ≤ 1048576 → IsPart Line last 0 → IsPart Trailers trailers 0 → bytes ≡ print_chunks ds ++ ((last ++ trailers) ++ rest) → ⊥
next_cut [] before bytes last trailers rest c valid fits ends trails whole = last_cut before bytes last trailers rest fits ends trails whole c
next_cut (d ∷ ds) before bytes last trailers rest c valid fits ends trails whole =
    chunk_cut before bytes d (print_chunks ds ++ ((last ++ trailers) ++ rest)) (All-head IsChunk d ds valid)
    (omega (arith, fits, length-append d.piece (joined ds))) (whole ∙ opened d ds ((last ++ trailers) ++ rest)) c

-- what excludes a body from its place on excludes it behind chunks
module _ (N : ℕ → List ℕ → Type 0)
    (none : (ds : List Chunk) (before : ℕ) (bytes last trailers rest : List ℕ) → N before bytes
    → All IsChunk ds → before + length (joined ds) ≤ 1048576 → IsPart Line last 0 → IsPart Trailers trailers 0 → bytes ≡ print_chunks ds ++ ((last ++ trailers) ++ rest) → ⊥) where
  behind_none : (cs ds : List Chunk) (before : ℕ) (behind last trailers rest : List ℕ) → All IsChunk cs → N (before + length (joined cs)) behind
      → All IsChunk ds → before + length (joined ds) ≤ 1048576 → IsPart Line last 0 → IsPart Trailers trailers 0
      → print_chunks cs ++ behind ≡ print_chunks ds ++ ((last ++ trailers) ++ rest) → ⊥
  behind_none [] ds before behind last trailers rest p n valid fits ends trails e =
      let same : before + 0 ≡ before = omega arith in
      none ds before behind last trailers rest (subst (λ k. N k behind) same n) valid fits ends trails e
  behind_none (c ∷ cs) [] before behind last trailers rest p n valid fits ends trails e =
      not_last c last (codes "\r\n" ++ (print_chunks cs ++ behind)) (trailers ++ rest) (All-head IsChunk c cs p) ends
      (sym (opened c cs behind) ∙ e ∙ append_assoc last trailers rest)
  behind_none (c ∷ cs) (d ∷ ds) before behind last trailers rest p n valid fits ends trails e =
      let same = same_chunk c d (codes "\r\n" ++ (print_chunks cs ++ behind)) (codes "\r\n" ++ (print_chunks ds ++ ((last ++ trailers) ++ rest)))
      (All-head IsChunk c cs p) (All-head IsChunk d ds valid) (sym (opened c cs behind) ∙ e ∙ opened d ds ((last ++ trailers) ++ rest)) in
      let later = (same_parts (codes "\r\n") (codes "\r\n") (print_chunks cs ++ behind) (print_chunks ds ++ ((last ++ trailers) ++ rest)) refl same.1).1 in
      let sum : before + length (c.piece ++ joined cs) ≡ (before + length c.piece) + length (joined cs) = omega (arith, length-append c.piece (joined cs)) in
      behind_none cs ds (before + length c.piece) behind last trailers rest (All-tail IsChunk c cs p) (subst (λ k. N k behind) sum n)
      (All-tail IsChunk d ds valid) (omega (arith, fits, length-append d.piece (joined ds), ap (λ k. length k.piece) same.0)) ends trails later

-- the body that bytes spell, and what stands behind it
spelled : (bytes coded body rest : List ℕ) (s : SpellsChunks coded body) → bytes ≡ coded ++ rest → bytes ≡ print_chunks s.chunks ++ ((s.last ++ s.trailers) ++ rest)
spelled bytes coded body rest s e =
    e ∙ ap (λ l. l ++ rest) s.begins.whole ∙ append_assoc (print_chunks s.chunks) (s.last ++ s.trailers) rest

pub refused_body : (bytes coded body rest : List ℕ) (status : ℕ) → RefusesChunks bytes status → SpellsChunks coded body → bytes ≡ coded ++ rest → ⊥
refused_body bytes coded body rest status r s e =
    let fits = s.begins.fits in
    let zero : length (joined r.0) ≡ 0 + length (joined r.0) = omega arith in
    behind_none (λ before b. RefusesNext before b status) (next_refused status) r.0 s.chunks 0 r.1 s.last s.trailers rest r.2.valid
    (subst (λ k. RefusesNext k r.1 status) zero r.3) s.begins.valid (omega (arith, fits)) s.ends s.trails
    (sym r.2.whole ∙ spelled bytes coded body rest s e)

pub cut_body : (bytes coded body rest : List ℕ) → CutsChunks bytes → SpellsChunks coded body → bytes ≡ coded ++ rest → ⊥
cut_body bytes coded body rest c s e =
    let fits = s.begins.fits in
    let zero : length (joined c.0) ≡ 0 + length (joined c.0) = omega arith in
    behind_none CutsNext next_cut c.0 s.chunks 0 c.1 s.last s.trailers rest c.2.valid
    (subst (λ k. CutsNext k c.1) zero c.3) s.begins.valid (omega (arith, fits)) s.ends s.trails
    (sym c.2.whole ∙ spelled bytes coded body rest s e)

-- two bodies at one place are the same
same_bodies : (cs ds : List Chunk) (l t x m u y : List ℕ) → All IsChunk cs → All IsChunk ds → IsPart Line l 0 → IsPart Line m 0 → IsPart Trailers t 0 → IsPart Trailers u 0
    → print_chunks cs ++ ((l ++ t) ++ x) ≡ print_chunks ds ++ ((m ++ u) ++ y) → (joined cs ≡ joined ds) × (x ≡ y)
same_bodies [] [] l t x m u y p q l_is m_is t_is u_is e =
    let lines = part_unique Line l m (t ++ x) (u ++ y) 0 0 l_is.0 m_is.0 (sym (append_assoc l t x) ∙ e ∙ append_assoc m u y) in
    let rests = part_unique Trailers t u x y 0 0 t_is.0 u_is.0 lines.2 in
    (refl, rests.2)
same_bodies [] (d ∷ ds) l t x m u y p q l_is m_is t_is u_is e =
    absurd (not_last d l (codes "\r\n" ++ (print_chunks ds ++ ((m ++ u) ++ y))) (t ++ x) (All-head IsChunk d ds q) l_is
    (sym (opened d ds ((m ++ u) ++ y)) ∙ sym e ∙ append_assoc l t x))
same_bodies (c ∷ cs) [] l t x m u y p q l_is m_is t_is u_is e =
    absurd (not_last c m (codes "\r\n" ++ (print_chunks cs ++ ((l ++ t) ++ x))) (u ++ y) (All-head IsChunk c cs p) m_is
    (sym (opened c cs ((l ++ t) ++ x)) ∙ e ∙ append_assoc m u y))
same_bodies (c ∷ cs) (d ∷ ds) l t x m u y p q l_is m_is t_is u_is e =
    let same = same_chunk c d (codes "\r\n" ++ (print_chunks cs ++ ((l ++ t) ++ x))) (codes "\r\n" ++ (print_chunks ds ++ ((m ++ u) ++ y)))
    (All-head IsChunk c cs p) (All-head IsChunk d ds q) (sym (opened c cs ((l ++ t) ++ x)) ∙ e ∙ opened d ds ((m ++ u) ++ y)) in
    let inner = (same_parts (codes "\r\n") (codes "\r\n") (print_chunks cs ++ ((l ++ t) ++ x)) (print_chunks ds ++ ((m ++ u) ++ y)) refl same.1).1 in
    let later = same_bodies cs ds l t x m u y (All-tail IsChunk c cs p) (All-tail IsChunk d ds q) l_is m_is t_is u_is inner in
    (λ i. (same.0 i).piece ++ later.0 i, later.1)

pub one_chunked : (a b x y after rest : List ℕ) → SpellsChunks a x → SpellsChunks b y → a ++ after ≡ b ++ rest → (x ≡ y) × (after ≡ rest)
one_chunked a b x y after rest s t e =
    let same = same_bodies s.chunks t.chunks s.last s.trailers after t.last t.trailers rest s.begins.valid t.begins.valid s.ends t.ends s.trails t.trails
    (sym (spelled (a ++ after) a x after s refl) ∙ spelled (a ++ after) b y rest t e) in
    (s.body_is ∙ same.0 ∙ sym t.body_is, same.1)

-- what is refused stays refused
longer : (bytes front behind more : List ℕ) → bytes ≡ front ++ behind → bytes ++ more ≡ front ++ (behind ++ more)
longer bytes front behind more e = ap (λ l. l ++ more) e ∙ append_assoc front behind more

next_longer : (before : ℕ) (bytes more : List ℕ) (status : ℕ) → RefusesNext before bytes status → RefusesNext before (bytes ++ more) status
next_longer before bytes more status (by_line is r) = by_line is (refused_longer Line bytes more r)
next_longer before bytes more status (by_sum is line behind size p e long) = by_sum is line (behind ++ more) size p (longer bytes line behind more e) long
next_longer before bytes more status (by_end is c behind p le e r) =
    by_end is c (behind ++ more) p le (longer bytes (print_open c) behind more e) (refused_longer End behind more r)
next_longer before bytes more status (by_trailers is l behind p e r) =
    by_trailers is l (behind ++ more) p (longer bytes l behind more e) (refused_longer Trailers behind more r)

pub chunks_longer : (bytes more : List ℕ) (status : ℕ) → RefusesChunks bytes status → RefusesChunks (bytes ++ more) status
chunks_longer bytes more status r = (
  r.0,
  r.1 ++ more,
  record { valid = r.2.valid; fits = r.2.fits; whole = longer bytes (print_chunks r.0) r.1 more r.2.whole },
  next_longer (length (joined r.0)) r.1 more status r.3,
)
