-- What is refused isn't unfinished, but in a target: the rules decide.
use Rattle.std.proofs.Common.{arith, ◌≡◌, ◌≤◌, inl, inr, ℕ, List, [], ◌∷◌, ◌++◌, length, ◌+◌, take, sym, ap, subst, refl, ◌∙◌, ◌-◌, append_assoc, append-nil, length-append}
use Rattle.std.specs.Prelude.{codes, All, IsTrue}
use Rattle.std.proofs.lemmas.List.{take_all}
use Rattle.std.proofs.lemmas.Str.{IsUtf8-from_ascii}
use Rattle.std.proofs.lemmas.Str.Ascii.{IsAscii-cons, IsAscii-nil}
use Rattle.std.proofs.Math.Seq.{take-append-add}
use Rattle.std.proofs.lemmas.List.Elements.{All-cons, All-head, All-nil, All-tail}
use Rattle.httparse.proofs.GrammarLemmas.{request_unique}
use Rattle.httparse.specs.Grammar.{is_token_byte, is_uri_byte, lf, IsField, IsRequestHead, RequestHead, print_request, ReadsRequest, EndsInTarget}
use Rattle.http_edge.specs.Parts.{RefusesPart, CutsPart, part_limit}
use Rattle.http_edge.specs.Chunked.{Chunk, IsChunk, print_chunks, joined, RefusesNext, by_line, by_sum, by_end, by_trailers, CutsNext, in_line, in_chunk, in_end, in_trailers, RefusesChunks, CutsChunks}
use Rattle.http_edge.specs.Refusal.{window, BeginsWithHead, RefusesBody, CutsBody, IsRefused, never, too_long, by_framing, IsUnfinished, in_head, in_body, AwaitsMore}
use Rattle.http_edge.specs.Spelling.{head_framing}
use Rattle.http_edge.specs.declared.framing.Framing.{Framing}
use Rattle.http_edge.specs.declared.framing.Framing.TheVariants.{Length, Chunked, Refused}
use Rattle.http_edge.specs.declared.parts.Part.{Part}
use Rattle.http_edge.specs.declared.parts.Part.TheVariants.{Line, End, Trailers}
use Rattle.http_edge.proofs.RoomLemmas.{head_takes}
use Rattle.http_edge.proofs.PartLemmas.{same_parts, part_unique, refused_part, cut_part}
use Rattle.http_edge.proofs.ChunkedLemmas.{opened, same_chunk, not_last, chunk_refused, chunk_cut}

-- ---- a body by chunks

part_decided : (kind : Part) (bytes : List ℕ) → RefusesPart kind bytes → CutsPart kind bytes → ⊥
part_decided kind bytes (inl none) (less, lacks, (more, size, is)) =
    let all : take (part_limit kind) bytes ≡ bytes = take_all (part_limit kind) bytes (omega (arith, less)) in
    none more (bytes ++ more) [] size is (ap (λ l. l ++ more) all ∙ sym (append-nil (bytes ++ more)))
part_decided kind bytes (inr long) (less, lacks, may) = let le = long.0 in omega (arith, le, less)

-- at one place
next_decided : (before : ℕ) (bytes : List ℕ) (status : ℕ) → before ≤ 1048576 → RefusesNext before bytes status → CutsNext before bytes → ⊥
next_decided before bytes status fits (by_line is r) (in_line cut) = part_decided Line bytes r cut
next_decided before bytes status fits (by_line is r) (in_chunk line behind size p le e less) = refused_part Line bytes line behind size r p e
next_decided before bytes status fits (by_line is r) (in_end c behind p le e cut) =
    refused_part Line bytes c.line (c.piece ++ behind) (length c.piece) r p.1 (e ∙ append_assoc c.line c.piece behind)
next_decided before bytes status fits (by_line is r) (in_trailers last behind p e cut) = refused_part Line bytes last behind 0 r p e
next_decided before bytes status fits (by_sum is line behind size p e long) (in_line cut) = cut_part Line bytes line behind size cut p e
next_decided before bytes status fits (by_sum is line behind size p e long) (in_chunk other after count q le f less) =
    let same = (part_unique Line line other behind after size count p.0 q.0 (sym e ∙ f)).1 in omega (arith, same, long, le)
next_decided before bytes status fits (by_sum is line behind size p e long) (in_end c after q le f cut) =
    let same = (part_unique Line line c.line behind (c.piece ++ after) size (length c.piece) p.0 q.1.0 (sym e ∙ f ∙ append_assoc c.line c.piece after)).1 in
    omega (arith, same, long, le)
next_decided before bytes status fits (by_sum is line behind size p e long) (in_trailers last after q f cut) =
    let same = (part_unique Line line last behind after size 0 p.0 q.0 (sym e ∙ f)).1 in omega (arith, same, long, fits)
next_decided before bytes status fits (by_end is c behind p le e r) (in_line cut) =
    cut_part Line bytes c.line (c.piece ++ behind) (length c.piece) cut p.1 (e ∙ append_assoc c.line c.piece behind)
next_decided before bytes status fits (by_end is c behind p le e r) (in_chunk line after size q room f less) =
    let same = part_unique Line c.line line (c.piece ++ behind) after (length c.piece) size p.1.0 q.0 (sym (append_assoc c.line c.piece behind) ∙ sym e ∙ f) in
    let sized = same.1 in
    omega (arith, sized, less, ap length same.2, length-append c.piece behind)
next_decided before bytes status fits (by_end is c behind p le e r) (in_end d after q room f cut) =
    let same = same_chunk c d behind after p q (sym e ∙ f) in part_decided End after (subst (RefusesPart End) same.1 r) cut
next_decided before bytes status fits (by_end is c behind p le e r) (in_trailers last after q f cut) = not_last c last behind after p q (sym e ∙ f)
next_decided before bytes status fits (by_trailers is last behind p e r) (in_line cut) = cut_part Line bytes last behind 0 cut p e
next_decided before bytes status fits (by_trailers is last behind p e r) (in_chunk line after size q room f less) =
    let same = (part_unique Line last line behind after 0 size p.0 q.0 (sym e ∙ f)).1 in omega (arith, same, less)
next_decided before bytes status fits (by_trailers is last behind p e r) (in_end c after q room f cut) = not_last c last after behind q p (sym f ∙ e)
next_decided before bytes status fits (by_trailers is last behind p e r) (in_trailers other after q f cut) =
    let same = (part_unique Line last other behind after 0 0 p.0 q.0 (sym e ∙ f)).2 in part_decided Trailers after (subst (RefusesPart Trailers) same r) cut

-- behind chunks
behind_decided : (cs ds : List Chunk) (before : ℕ) (x y : List ℕ) (status : ℕ) → All IsChunk cs → All IsChunk ds
    → before + length (joined cs) ≤ 1048576 → before + length (joined ds) ≤ 1048576
    → RefusesNext (before + length (joined cs)) x status → CutsNext (before + length (joined ds)) y → print_chunks cs ++ x ≡ print_chunks ds ++ y → ⊥
behind_decided [] [] before x y status p q fits fits' r c e = next_decided (before + 0) y status fits (subst (λ l. RefusesNext (before + 0) l status) e r) c
behind_decided [] (d ∷ ds) before x y status p q fits fits' r c e =
    let none : before + 0 ≡ before = omega arith in
    chunk_refused before x d (print_chunks ds ++ y) (All-head IsChunk d ds q) (omega (arith, fits', length-append d.piece (joined ds)))
    (e ∙ opened d ds y) status (subst (λ n. RefusesNext n x status) none r)
behind_decided (d ∷ cs) [] before x y status p q fits fits' r c e =
    let none : before + 0 ≡ before = omega arith in
    chunk_cut before y d (print_chunks cs ++ x) (All-head IsChunk d cs p) (omega (arith, fits, length-append d.piece (joined cs)))
    (sym e ∙ opened d cs x) (subst (λ n. CutsNext n y) none c)
behind_decided (d ∷ cs) (g ∷ ds) before x y status p q fits fits' r c e =
    let same = same_chunk d g (codes "\r\n" ++ (print_chunks cs ++ x)) (codes "\r\n" ++ (print_chunks ds ++ y))
    (All-head IsChunk d cs p) (All-head IsChunk g ds q) (sym (opened d cs x) ∙ e ∙ opened g ds y) in
    let later = (same_parts (codes "\r\n") (codes "\r\n") (print_chunks cs ++ x) (print_chunks ds ++ y) refl same.1).1 in
    let sized : length d.piece ≡ length g.piece = ap (λ k. length k.piece) same.0 in
    let sum : before + length (d.piece ++ joined cs) ≡ (before + length d.piece) + length (joined cs) = omega (arith, length-append d.piece (joined cs)) in
    let sum' : before + length (g.piece ++ joined ds) ≡ (before + length d.piece) + length (joined ds) = omega (arith, sized, length-append g.piece (joined ds)) in
    behind_decided cs ds (before + length d.piece) x y status (All-tail IsChunk d cs p) (All-tail IsChunk g ds q) (omega (arith, fits, sum)) (omega (arith, fits', sum'))
    (subst (λ n. RefusesNext n x status) sum r) (subst (λ n. CutsNext n y) sum' c) later

chunks_decided : (bytes : List ℕ) (status : ℕ) → RefusesChunks bytes status → CutsChunks bytes → ⊥
chunks_decided bytes status r c =
    let fits = r.2.fits in
    let fits' = c.2.fits in
    let zero : length (joined r.0) ≡ 0 + length (joined r.0) = omega arith in
    let zero' : length (joined c.0) ≡ 0 + length (joined c.0) = omega arith in
    behind_decided r.0 c.0 0 r.1 c.1 status r.2.valid c.2.valid (omega (arith, fits)) (omega (arith, fits'))
    (subst (λ n. RefusesNext n r.1 status) zero r.3) (subst (λ n. CutsNext n c.1) zero' c.3) (sym r.2.whole ∙ c.2.whole)

-- ---- a request

body_decided : (f : Framing) (behind : List ℕ) (status : ℕ) → RefusesBody f behind status → CutsBody f behind → ⊥
body_decided (Length n) behind status r c = r
body_decided Chunked behind status r c = chunks_decided behind status r c
body_decided (Refused s) behind status r c = c

-- what begins with a head begins so in the window
windowed : (bytes behind : List ℕ) (h : RequestHead) → BeginsWithHead bytes h behind → (rest : List ℕ) × ReadsRequest (window bytes) h rest
windowed bytes behind h begins = (
  take (16384 - length (print_request h)) behind,
  (
    begins.0.0,
    ap (take 16384) begins.0.1 ∙ ap (λ n. take n (print_request h ++ behind)) whole
        ∙ take-append-add (print_request h) behind (16384 - length (print_request h)),
  ),
)
  where
    whole : 16384 ≡ length (print_request h) + (16384 - length (print_request h))
    whole = let small = begins.1 in omega (arith, small)

unfinished_decided : (bytes : List ℕ) (status : ℕ) → IsRefused bytes status → IsUnfinished bytes → EndsInTarget bytes
unfinished_decided bytes status (never is lacks) (in_head some short none (inr target)) = target
unfinished_decided bytes status (never is lacks) (in_head some short none (inl may)) =
    let all : window bytes ≡ bytes = take_all 16384 bytes (omega (arith, short)) in
    absurd (lacks may.0 may.1 [] (subst (λ l. ReadsRequest (l ++ may.0) may.1 []) (sym all) may.2))
unfinished_decided bytes status (never is lacks) (in_body h behind begins cuts) =
    let at = windowed bytes behind h begins in
    absurd (lacks [] h at.0 (subst (λ l. ReadsRequest l h at.0) (sym (append-nil (window bytes))) at.1))
unfinished_decided bytes status (too_long is long lacks may) (in_head some short none other) = absurd (omega (arith, long, short))
unfinished_decided bytes status (too_long is long lacks may) (in_body h behind begins cuts) =
    let at = windowed bytes behind h begins in absurd (lacks h at.0 at.1)
unfinished_decided bytes status (by_framing h behind begins refuses) (in_head some short none may) = absurd (none h behind begins.0)
unfinished_decided bytes status (by_framing h behind begins refuses) (in_body g rest begun cuts) =
    let same = request_unique bytes h g behind rest begins.0 begun.0 in
    absurd (body_decided (head_framing h) behind status refuses (subst (λ k. CutsBody (head_framing k) behind) (sym same.0) (subst (CutsBody (head_framing g)) (sym same.1) cuts)))

-- nothing isn't refused: a shortest request may come
abbrev shortest : RequestHead
shortest = record { blank = []; method = codes "A"; target = codes "/"; minor = 0; line_end = lf; fields = []; last = lf }

shortest_valid : IsRequestHead shortest
unfolding is_token_byte
shortest_valid = record {
  method = (omega arith, All-cons (λ b. IsTrue (is_token_byte b)) 65 [] refl (All-nil (λ b. IsTrue (is_token_byte b))));
  target = (omega arith, All-cons (λ b. IsTrue (is_uri_byte b)) 47 [] refl (All-nil (λ b. IsTrue (is_uri_byte b))));
  target_text = IsUtf8-from_ascii (47 ∷ []) (IsAscii-cons 47 [] (omega arith) IsAscii-nil);
  minor = omega arith;
  fields = All-nil IsField;
}

something : (status : ℕ) → IsRefused [] status → ⊥
something status (never is lacks) = lacks (print_request shortest) shortest [] (shortest_valid, sym (append-nil (print_request shortest)))
something status (too_long is long lacks may) = omega (arith, long)
something status (by_framing h behind begins refuses) =
    let sum = length-append (print_request h) behind in
    let takes = head_takes h begins.0.0 in
    omega (arith, ap length begins.0.1, sum, takes)

pub decided : (bytes : List ℕ) (status : ℕ) → IsRefused bytes status → AwaitsMore bytes → EndsInTarget bytes
decided bytes status refused (inl none) = absurd (something status (subst (λ l. IsRefused l status) none refused))
decided bytes status refused (inr unfinished) = unfinished_decided bytes status refused unfinished
