-- Whether bytes begin with a body by chunks can be told, part by part.
use Rattle.std.proofs.Common.{arith, ◌≡◌, ◌<◌, ◌≤◌, ◌⊎◌, inl, inr, ℕ, zero, suc, List, [], ◌∷◌, ◌++◌, length, ◌+◌, take, drop, sym, ap, subst, refl, ◌∙◌, Bool, true, false, append_assoc, length-append, Option, Some, None}
use Rattle.std.specs.Prelude.{codes, All}
use Rattle.std.specs.Char.{is_ascii_hexdigit}
use Rattle.std.proofs.lemmas.Bool.{cases_lt, cases_Bool}
use Rattle.std.proofs.lemmas.List.{take-append-drop, length-take-le}
use Rattle.std.proofs.lemmas.List.Elements.{All-nil, All-cons, All-head, All-tail}
use Rattle.httparse.specs.Grammar.{is_ows, is_extension_byte, AllPass, crlf, print_end, print_chunk_line, chunk_size, print_section}
use Rattle.httparse.specs.Pieces.{Then, Run, HexDigits, Extension, Chunk as Pieces, Section}
use Rattle.httparse.proofs.ChunkLemmas.{Run_deterministic, HexDigits_deterministic, chunk_line, chunk_pieces, chunk_from_pieces}
use Rattle.http_edge.specs.Parts.{part_limit, IsText, IsPart}
use Rattle.http_edge.specs.Chunked.{Chunk, IsChunk, print_open, print_chunks, joined, SpellsChunks}
use Rattle.http_edge.specs.declared.parts.Part.{Part}
use Rattle.http_edge.specs.declared.parts.Part.TheVariants.{Line, End, Trailers}
use Rattle.http_edge.proofs.DecideLemmas.{IsTold, then_told, HasFront, front_told, section_told}
use Rattle.http_edge.proofs.PartLemmas.{same_parts, part_unique}
use Rattle.http_edge.proofs.ChunkedLemmas.{opened, same_chunk, not_last, HasBody}

-- the longest run of bytes that pass a test, before one that doesn't
run_told : (test : ℕ → Bool) (text : List ℕ) → IsTold (Run test) text
run_told test [] = inr none
  where
    none : (word rest : List ℕ) → Run test word [] rest → ⊥
    none [] [] x = x.2
    none [] (b ∷ rest) x = let e = x.1 in cc
    none (c ∷ word) rest x = let e = x.1 in cc
run_told test (b ∷ text) = go (cases_Bool (test b)) (run_told test text)
  where
    passed : test b ≡ true → ((word rest : List ℕ) → Run test word text rest → ⊥) → (word rest : List ℕ) → Run test word (b ∷ text) rest → ⊥
    passed is none [] [] x = x.2
    passed is none [] (c ∷ rest) x =
        let e = x.1 in let same : b ≡ c = cc in let fails : true ≡ false = sym is ∙ ap test same ∙ x.2 in cc
    passed is none (c ∷ word) rest x = let e = x.1 in none word rest (All-tail (λ v. test v ≡ true) c word x.0, cc, x.2)

    go : (test b ≡ true) ⊎ (test b ≡ false) → IsTold (Run test) text → IsTold (Run test) (b ∷ text)
    go (inl is) (inl x) = inl (b ∷ x.0, x.1, (All-cons (λ v. test v ≡ true) b x.0 is x.2.0, ap (λ l. b ∷ l) x.2.1, x.2.2))
    go (inl is) (inr none) = inr (passed is none)
    go (inr is) later = inl ([], b ∷ text, (All-nil (λ v. test v ≡ true), refl, is))

hex_told : (text : List ℕ) → IsTold HexDigits text
hex_told text = go (run_told is_ascii_hexdigit text)
  where
    counted : (word rest : List ℕ) → Run is_ascii_hexdigit word text rest → (16 < length word) ⊎ (length word ≤ 16) → (0 < length word) ⊎ (length word ≤ 0) → IsTold HexDigits text
    counted word rest x (inl long) some = inr (λ other end y.
        let same = (Run_deterministic is_ascii_hexdigit).unique other word text end rest y.0 x in
        let few = y.2 in
        omega (arith, few, long, ap length same.0))
    counted word rest x (inr few) (inl some) = inl (word, rest, (x, some, few))
    counted word rest x (inr few) (inr no_digit) = inr (λ other end y.
        let same = (Run_deterministic is_ascii_hexdigit).unique other word text end rest y.0 x in
        let some = y.1 in
        omega (arith, some, no_digit, ap length same.0))

    go : IsTold (Run is_ascii_hexdigit) text → IsTold HexDigits text
    go (inl x) = counted x.0 x.1 x.2 (cases_lt 16 (length x.0)) (cases_lt 0 (length x.0))
    go (inr none) = inr (λ word rest x. none word rest x.0)

-- a text without CR and LF, and then a line end
ended_told : (text : List ℕ) → IsTold (λ (word middle rest : List ℕ). AllPass is_extension_byte word × (middle ≡ word ++ (print_end crlf ++ rest))) text
ended_told text = go (run_told is_extension_byte text)
  where
    at_end : (word rest : List ℕ) → Run is_extension_byte word text rest → HasFront (print_end crlf) rest
        → IsTold (λ (w middle r : List ℕ). AllPass is_extension_byte w × (middle ≡ w ++ (print_end crlf ++ r))) text
    at_end word rest x (inl front) = inl (word, front.0, (x.0, x.1 ∙ ap (λ l. word ++ l) front.1))
    at_end word rest x (inr none) = inr (λ other end y.
        let same = (Run_deterministic is_extension_byte).unique other word text (print_end crlf ++ end) rest (y.0, y.1, refl) x in
        none end (sym same.1))

    go : IsTold (Run is_extension_byte) text → IsTold (λ (w middle r : List ℕ). AllPass is_extension_byte w × (middle ≡ w ++ (print_end crlf ++ r))) text
    go (inl x) = at_end x.0 x.1 x.2 (front_told (print_end crlf) x.1)
    go (inr none) = inr (λ word rest x. none word (print_end crlf ++ rest) (x.0, x.1, refl))

extension_told : (text : List ℕ) → IsTold Extension text
extension_told text = go (front_told (print_end crlf) text) (front_told (59 ∷ []) text)
  where
    neither : ((rest : List ℕ) → text ≡ print_end crlf ++ rest → ⊥) → ((rest word end : List ℕ) → text ≡ 59 ∷ rest → AllPass is_extension_byte word → rest ≡ word ++ (print_end crlf ++ end) → ⊥)
        → (e : Option (List ℕ)) (rest : List ℕ) → Extension e text rest → ⊥
    neither m n None rest x = m rest x.1
    neither m n (Some word) rest x = n (word ++ (print_end crlf ++ rest)) word rest x.1 x.0 refl

    with_text : (rest : List ℕ) → text ≡ 59 ∷ rest → ((other : List ℕ) → text ≡ print_end crlf ++ other → ⊥)
        → IsTold (λ (w middle r : List ℕ). AllPass is_extension_byte w × (middle ≡ w ++ (print_end crlf ++ r))) rest → IsTold Extension text
    with_text rest e m (inl x) = inl (Some x.0, x.1, (x.2.0, e ∙ ap (λ l. 59 ∷ l) x.2.1))
    with_text rest e m (inr none) = inr (neither m (λ other word end e' pass is.
        let same : rest ≡ other = cc in
        none word end (pass, same ∙ is)))

    go : HasFront (print_end crlf) text → HasFront (59 ∷ []) text → IsTold Extension text
    go (inl x) other = inl (None, x.0, (tt, x.1))
    go (inr m) (inl x) = with_text x.0 x.1 m (ended_told x.0)
    go (inr m) (inr n) = inr (neither m (λ rest word end e pass is. n rest e))

-- a part of any length
abbrev IsPartTold : (Part → List ℕ → ℕ → Type 0) → Part → List ℕ → Type 0
IsPartTold P kind bytes =
    ((text : List ℕ) × (behind : List ℕ) × (size : ℕ) × P kind text size × (bytes ≡ text ++ behind))
    ⊎ ((text behind : List ℕ) (size : ℕ) → P kind text size → bytes ≡ text ++ behind → ⊥)

text_told : (kind : Part) (bytes : List ℕ) → IsPartTold IsText kind bytes
text_told Line bytes = go (then_told HexDigits (Then (Run is_ows) Extension) HexDigits_deterministic hex_told
    (then_told (Run is_ows) Extension (Run_deterministic is_ows) (run_told is_ows) extension_told) bytes)
  where
    go : IsTold Pieces bytes → IsPartTold IsText Line bytes
    go (inl x) =
        let reads = chunk_from_pieces bytes x.0 x.1 x.2 in
        inl (print_chunk_line (chunk_line x.0), x.1, chunk_size (chunk_line x.0), (chunk_line x.0, reads.0, refl, refl), reads.1)
    go (inr none) = inr (λ text behind size p e.
        none (p.0.digits, (p.0.pad, p.0.extension)) behind (chunk_pieces bytes p.0 behind (p.1, e ∙ ap (λ l. l ++ behind) p.2)))
text_told End bytes = go (front_told (codes "\r\n") bytes)
  where
    go : HasFront (codes "\r\n") bytes → IsPartTold IsText End bytes
    go (inl x) = inl (codes "\r\n", x.0, 0, (refl, refl), x.1)
    go (inr none) = inr (λ text behind size p e. none behind (e ∙ ap (λ l. l ++ behind) p.0))
text_told Trailers bytes = go (section_told (length bytes) bytes (omega arith))
  where
    go : IsTold Section bytes → IsPartTold IsText Trailers bytes
    go (inl x) = inl (print_section x.0.0 x.0.1, x.1, 0, (x.0.0, x.0.1, x.2.0, refl, refl), x.2.1)
    go (inr none) = inr (λ text behind size p e. none (p.0, p.1) behind (p.2, e ∙ ap (λ l. l ++ behind) p.3))

part_told : (kind : Part) (bytes : List ℕ) → IsPartTold IsPart kind bytes
part_told kind bytes = go (text_told kind bytes)
  where
    short : (text behind : List ℕ) (size : ℕ) → IsText kind text size → bytes ≡ text ++ behind → (part_limit kind < length text) ⊎ (length text ≤ part_limit kind) → IsPartTold IsPart kind bytes
    short text behind size p e (inl long) = inr (λ other end n q e'.
        let same = part_unique kind other text end behind n size q.0 p (sym e' ∙ e) in
        let fits = q.1 in
        omega (arith, fits, long, ap length same.0))
    short text behind size p e (inr fits) = inl (text, behind, size, (p, fits), e)

    go : IsPartTold IsText kind bytes → IsPartTold IsPart kind bytes
    go (inl x) = short x.0 x.1 x.2 x.3 x.4 (cases_lt (part_limit kind) (length x.0))
    go (inr none) = inr (λ text behind size p e. none text behind size p.0 e)

-- whether a body stands there, behind so many bytes of it
abbrev IsBodyTold : ℕ → List ℕ → Type 0
IsBodyTold before bytes = HasBody before bytes ⊎ (HasBody before bytes → ⊥)

-- a body begins with a chunk or with the last line
by_first : (before : ℕ) (bytes : List ℕ)
    → ((last trailers rest : List ℕ) → IsPart Line last 0 → IsPart Trailers trailers 0 → bytes ≡ last ++ (trailers ++ rest) → ⊥)
    → ((d : Chunk) (after : List ℕ) → IsChunk d → before + length d.piece ≤ 1048576 → HasBody (before + length d.piece) after → bytes ≡ print_open d ++ (codes "\r\n" ++ after) → ⊥)
    → HasBody before bytes → ⊥
by_first before bytes m n h = go h.chunks h.valid h.fits h.whole
  where
    go : (cs : List Chunk) → All IsChunk cs → before + length (joined cs) ≤ 1048576 → bytes ≡ print_chunks cs ++ ((h.last ++ h.trailers) ++ h.rest) → ⊥
    go [] valid fits whole = m h.last h.trailers h.rest h.ends h.trails (whole ∙ append_assoc h.last h.trailers h.rest)
    go (d ∷ ds) valid fits whole =
        let sum = length-append d.piece (joined ds) in
        n d (print_chunks ds ++ ((h.last ++ h.trailers) ++ h.rest)) (All-head IsChunk d ds valid) (omega (arith, fits, sum))
        (record {
          chunks = ds;
          last = h.last;
          trailers = h.trailers;
          rest = h.rest;
          valid = All-tail IsChunk d ds valid;
          fits = omega (arith, fits, sum);
          ends = h.ends;
          trails = h.trails;
          whole = refl;
        }) (whole ∙ opened d ds ((h.last ++ h.trailers) ++ h.rest))

-- behind the last line
module _ (before : ℕ) (bytes text behind : List ℕ) (low : before ≤ 1048576) (p : IsPart Line text 0) (e : bytes ≡ text ++ behind) where
  last_told : IsPartTold IsPart Trailers behind → IsBodyTold before bytes
  last_told (inl x) = inl (go x.2 x.3)
    where
      go : (size : ℕ) → IsPart Trailers x.0 size → HasBody before bytes
      go size q = record {
        chunks = [];
        last = text;
        trailers = x.0;
        rest = x.1;
        valid = All-nil IsChunk;
        fits = omega (arith, low);
        ends = p;
        trails = subst (λ n. IsPart Trailers x.0 n) q.0.4 q;
        whole = e ∙ ap (λ l. text ++ l) x.4 ∙ sym (append_assoc text x.0 x.1);
      }
  last_told (inr none) = inr (by_first before bytes
      (λ last trailers rest q t e'. none trailers rest 0 t (part_unique Line text last behind (trailers ++ rest) 0 0 p.0 q.0 (sym e ∙ e')).2)
      (λ d after v fits h e'. not_last d text (codes "\r\n" ++ after) behind v p (sym e' ∙ e)))

-- behind the line of a chunk
module _ (before : ℕ) (bytes text behind : List ℕ) (size : ℕ) (some : 0 < size) (p : IsPart Line text size) (e : bytes ≡ text ++ behind) where
  no_last : (last trailers rest : List ℕ) → IsPart Line last 0 → IsPart Trailers trailers 0 → bytes ≡ last ++ (trailers ++ rest) → ⊥
  no_last last trailers rest q t e' =
      let same = part_unique Line text last behind (trailers ++ rest) size 0 p.0 q.0 (sym e ∙ e') in
      let none = same.1 in
      omega (arith, some, none)

  size_of : (d : Chunk) (after : List ℕ) → IsChunk d → bytes ≡ print_open d ++ (codes "\r\n" ++ after) → (size ≡ length d.piece) × (behind ≡ d.piece ++ (codes "\r\n" ++ after))
  size_of d after v e' =
      let same = part_unique Line text d.line behind (d.piece ++ (codes "\r\n" ++ after)) size (length d.piece) p.0 v.1.0
      (sym e ∙ e' ∙ append_assoc d.line d.piece (codes "\r\n" ++ after)) in
      (same.1, same.2)

  too_long : 1048576 < before + size → IsBodyTold before bytes
  too_long long = inr (by_first before bytes no_last (λ d after v fits h e'. let is = (size_of d after v e').0 in omega (arith, long, fits, is)))

  too_short : length behind < size → IsBodyTold before bytes
  too_short less = inr (by_first before bytes no_last (λ d after v fits h e'.
      let is = size_of d after v e' in
      let first = is.0 in
      omega (arith, less, first, ap length is.1, length-append d.piece (codes "\r\n" ++ after))))

  module _ (enough : size ≤ length behind) (fits : before + size ≤ 1048576) where
    abbrev here : Chunk
    here = record { line = text; piece = take size behind }

    size_is : length (take size behind) ≡ size
    size_is = length-take-le size behind enough

    here_is : IsChunk here
    here_is = (omega (arith, some, size_is), subst (λ n. IsPart Line text n) (sym size_is) p)

    here_at : bytes ≡ print_open here ++ drop size behind
    here_at = e ∙ ap (λ l. text ++ l) (sym (take-append-drop size behind)) ∙ sym (append_assoc text (take size behind) (drop size behind))

    same_here : (d : Chunk) (x : List ℕ) → IsChunk d → bytes ≡ print_open d ++ x → (here ≡ d) × (drop size behind ≡ x)
    same_here d x v e' = same_chunk here d (drop size behind) x here_is v (sym here_at ∙ e')

    end_lacks : ((other end : List ℕ) (n : ℕ) → IsPart End other n → drop size behind ≡ other ++ end → ⊥) → IsBodyTold before bytes
    end_lacks none = inr (by_first before bytes no_last (λ d after v le h e'.
        none (codes "\r\n") after 0 ((refl, refl), omega arith) (same_here d (codes "\r\n" ++ after) v e').1))

    end_stands : (after : List ℕ) → drop size behind ≡ codes "\r\n" ++ after → IsBodyTold (before + size) after → IsBodyTold before bytes
    end_stands after is (inl h) = inl (record {
      chunks = here ∷ h.chunks;
      last = h.last;
      trailers = h.trailers;
      rest = h.rest;
      valid = All-cons IsChunk here h.chunks here_is h.valid;
      fits = let later = h.fits in omega (arith, later, size_is, length-append (take size behind) (joined h.chunks));
      ends = h.ends;
      trails = h.trails;
      whole = here_at ∙ ap (λ l. print_open here ++ l) (is ∙ ap (λ l. codes "\r\n" ++ l) h.whole)
          ∙ sym (opened here h.chunks ((h.last ++ h.trailers) ++ h.rest));
    })
    end_stands after is (inr none) = inr (by_first before bytes no_last (λ d later v le h e'.
        let same = same_here d (codes "\r\n" ++ later) v e' in
        let rest = (same_parts (codes "\r\n") (codes "\r\n") after later refl (sym is ∙ same.1)).1 in
        let length_is : before + length d.piece ≡ before + size = ap (λ k. before + length k.piece) (sym same.0) ∙ ap (λ k. before + k) size_is in
        none (subst (λ l. HasBody (before + size) l) (sym rest) (subst (λ k. HasBody k later) length_is h))))

    end_told : IsPartTold IsPart End (drop size behind)
        → ((after : List ℕ) → drop size behind ≡ codes "\r\n" ++ after → IsBodyTold (before + size) after) → IsBodyTold before bytes
    end_told (inl x) later =
        let is : drop size behind ≡ codes "\r\n" ++ x.1 = x.4 ∙ ap (λ l. l ++ x.1) x.3.0.0 in
        end_stands x.1 is (later x.1 is)
    end_told (inr none) later = end_lacks none

  -- what follows is shorter
  shorter_by : (after : List ℕ) → drop size behind ≡ codes "\r\n" ++ after → length after < length bytes
  shorter_by after is =
      omega (
        arith,
        ap length is,
        length-append (codes "\r\n") after,
        ap length e,
        length-append text behind,
        ap length (take-append-drop size behind),
        length-append (take size behind) (drop size behind),
      )

  chunk_told : ((k : ℕ) (after : List ℕ) → k ≤ 1048576 → length after < length bytes → IsBodyTold k after) → IsBodyTold before bytes
  chunk_told shorter = by_limit (cases_lt 1048576 (before + size)) (cases_lt (length behind) size)
    where
      by_limit : (1048576 < before + size) ⊎ (before + size ≤ 1048576) → (length behind < size) ⊎ (size ≤ length behind) → IsBodyTold before bytes
      by_limit (inl long) other = too_long long
      by_limit (inr fits) (inl less) = too_short less
      by_limit (inr fits) (inr enough) = end_told enough fits (part_told End (drop size behind)) (λ after is. shorter (before + size) after fits (shorter_by after is))

body_step : (before : ℕ) (bytes : List ℕ) → before ≤ 1048576 → IsPartTold IsPart Line bytes
    → ((k : ℕ) (after : List ℕ) → k ≤ 1048576 → length after < length bytes → IsBodyTold k after) → IsBodyTold before bytes
body_step before bytes low (inl x) shorter = go x.2 x.3
  where
    go : (size : ℕ) → IsPart Line x.0 size → IsBodyTold before bytes
    go zero p = last_told before bytes x.0 x.1 low p x.4 (part_told Trailers x.1)
    go (suc k) p = chunk_told before bytes x.0 x.1 (suc k) (omega arith) p x.4 shorter
body_step before bytes low (inr none) shorter = inr (by_first before bytes
    (λ last trailers rest q t e. none last (trailers ++ rest) 0 q e)
    (λ d after v fits h e. none d.line (d.piece ++ (codes "\r\n" ++ after)) (length d.piece) v.1 (e ∙ append_assoc d.line d.piece (codes "\r\n" ++ after))))

-- by the length of the bytes
bodies_told : (n before : ℕ) (bytes : List ℕ) → before ≤ 1048576 → length bytes ≤ n → IsBodyTold before bytes
bodies_told zero before bytes low le = body_step before bytes low (part_told Line bytes) (λ k after fits less. absurd (omega (arith, less, le)))
bodies_told (suc n) before bytes low le = body_step before bytes low (part_told Line bytes) (λ k after fits less. bodies_told n k after fits (omega (arith, less, le)))

-- whether bytes begin with a body by chunks can be told
pub chunked_told : (bytes : List ℕ) → ((coded : List ℕ) × (body : List ℕ) × (rest : List ℕ) × SpellsChunks coded body × (bytes ≡ coded ++ rest))
    ⊎ ((coded body rest : List ℕ) → SpellsChunks coded body → bytes ≡ coded ++ rest → ⊥)
chunked_told bytes = go (bodies_told (length bytes) 0 bytes (omega arith) (omega arith))
  where
    go : IsBodyTold 0 bytes → ((coded : List ℕ) × (body : List ℕ) × (rest : List ℕ) × SpellsChunks coded body × (bytes ≡ coded ++ rest))
        ⊎ ((coded body rest : List ℕ) → SpellsChunks coded body → bytes ≡ coded ++ rest → ⊥)
    go (inl h) = inl (
      print_chunks h.chunks ++ (h.last ++ h.trailers),
      joined h.chunks,
      h.rest,
      record {
        chunks = h.chunks;
        last = h.last;
        trailers = h.trailers;
        begins = record { valid = h.valid; fits = (let fits = h.fits in omega (arith, fits)); whole = refl };
        ends = h.ends;
        trails = h.trails;
        body_is = refl;
      },
      h.whole ∙ sym (append_assoc (print_chunks h.chunks) (h.last ++ h.trailers) h.rest),
    )
    go (inr none) = inr (λ coded body rest s e. none (record {
      chunks = s.chunks;
      last = s.last;
      trailers = s.trailers;
      rest = rest;
      valid = s.begins.valid;
      fits = (let fits = s.begins.fits in omega (arith, fits));
      ends = s.ends;
      trails = s.trails;
      whole = e ∙ ap (λ l. l ++ rest) s.begins.whole ∙ append_assoc (print_chunks s.chunks) (s.last ++ s.trailers) rest;
    }))
