-- What coded bytes carry of a body, step by step.
use Rattle.std.proofs.Common.{arith, ◌≡◌, ◌<◌, ◌≤◌, ◌+◌, ◌-◌, ℕ, List, [], ◌∷◌, length, ◌++◌, sym, ap, subst, ◌∙◌, length-append, append_assoc, append-nil, codes}
use Rattle.std.specs.Prelude.{All}
use Rattle.std.proofs.lemmas.List.Elements.{All-push}
use Rattle.std.proofs.lemmas.Grind.{flat_map-append}
use Rattle.http_edge.specs.Parts.{IsPart}
use Rattle.http_edge.specs.Chunked.{Chunk, IsChunk, print_open, print_chunks, joined}
use Rattle.http_edge.specs.declared.parts.Part.TheVariants.{Line, Trailers}
use Rattle.response_reader.specs.Bodies.{Framing, Sized, Chunked, UntilEnd, IsInPiece, Carries}
use Rattle.response_reader.specs.Steps.{missing_in, left_after}
use Rattle.response_reader.specs.declared.framing.Left.{Left}
use Rattle.response_reader.specs.declared.framing.Left.TheVariants as left

-- ---- bytes of the body

piece_more : (chunks : List Chunk) (coded given piece : List ℕ) (missing : ℕ) → IsInPiece chunks coded given missing → length piece ≤ missing
    → IsInPiece chunks (coded ++ piece) (given ++ piece) (missing - length piece)
piece_more chunks coded given piece missing x fits =
    let same : length x.got + missing ≡ length (x.got ++ piece) + (missing - length piece) = omega (arith, length-append x.got piece, fits) in
    record {
      line = x.line;
      got = x.got ++ piece;
      some = subst (λ n. 0 < n) same x.some;
      line_is = subst (λ n. IsPart Line x.line n) same x.line_is;
      coded_is = ap (λ l. l ++ piece) x.coded_is ∙ append_assoc (print_chunks chunks ++ x.line) x.got piece;
      given_is = ap (λ l. l ++ piece) x.given_is ∙ append_assoc (joined chunks) x.got piece;
    }

pub given_on : (f : Framing) (l : Left) (chunks : List Chunk) (coded given piece : List ℕ) → Carries f chunks coded given l → 0 < length piece → length piece ≤ missing_in l
    → Carries f chunks (coded ++ piece) (given ++ piece) (left_after l (length piece))
given_on (Sized n) (left.Sized m) chunks coded given piece x some fits =
    (x.0, ap (λ l. l ++ piece) x.1, omega (arith, x.2, length-append given piece, fits))
given_on (Sized n) left.Chunk chunks coded given piece x some fits = absurd x
given_on (Sized n) (left.Piece m) chunks coded given piece x some fits = absurd x
given_on (Sized n) left.Over chunks coded given piece x some fits = absurd x
given_on (Sized n) left.UntilEnd chunks coded given piece x some fits = absurd x
given_on Chunked (left.Sized m) chunks coded given piece x some fits = absurd x.1
given_on Chunked left.Chunk chunks coded given piece x some fits = absurd (omega (arith, some, fits))
given_on Chunked (left.Piece m) chunks coded given piece x some fits = (x.0, piece_more chunks coded given piece m x.1 fits)
given_on Chunked left.Over chunks coded given piece x some fits = absurd (omega (arith, some, fits))
given_on Chunked left.UntilEnd chunks coded given piece x some fits = absurd x.1
given_on UntilEnd (left.Sized m) chunks coded given piece x some fits = absurd x
given_on UntilEnd left.Chunk chunks coded given piece x some fits = absurd x
given_on UntilEnd (left.Piece m) chunks coded given piece x some fits = absurd x
given_on UntilEnd left.Over chunks coded given piece x some fits = absurd x
given_on UntilEnd left.UntilEnd chunks coded given piece x some fits = (x.0, ap (λ l. l ++ piece) x.1)

-- ---- bytes between them

-- a piece's line end
abbrev pub chunk_of : (chunks : List Chunk) (coded given : List ℕ) → IsInPiece chunks coded given 0 → Chunk
chunk_of chunks coded given x = record { line = x.line; piece = x.got }

chunk_whole : (chunks : List Chunk) (coded given : List ℕ) (x : IsInPiece chunks coded given 0) → All IsChunk chunks
    → All IsChunk (chunks ++ chunk_of chunks coded given x ∷ [])
chunk_whole chunks coded given x all =
    let same : length x.got + 0 ≡ length x.got = omega arith in
    All-push IsChunk chunks (chunk_of chunks coded given x) all (subst (λ n. 0 < n) same x.some, subst (λ n. IsPart Line x.line n) same x.line_is)

chunk_coded : (chunks : List Chunk) (coded given : List ℕ) (x : IsInPiece chunks coded given 0) → coded ++ codes "\r\n" ≡ print_chunks (chunks ++ chunk_of chunks coded given x ∷ [])
chunk_coded chunks coded given x =
    ap (λ l. l ++ codes "\r\n") (x.coded_is ∙ append_assoc (print_chunks chunks) x.line x.got)
    ∙ append_assoc (print_chunks chunks) (x.line ++ x.got) (codes "\r\n")
    ∙ ap (λ l. print_chunks chunks ++ l) (sym (append-nil (x.line ++ x.got ++ codes "\r\n")))
    ∙ sym (flat_map-append (λ c. print_open c ++ codes "\r\n") chunks (chunk_of chunks coded given x ∷ []))

chunk_given : (chunks : List Chunk) (coded given : List ℕ) (x : IsInPiece chunks coded given 0) → given ≡ joined (chunks ++ chunk_of chunks coded given x ∷ [])
chunk_given chunks coded given x =
    x.given_is ∙ ap (λ l. joined chunks ++ l) (sym (append-nil x.got)) ∙ sym (flat_map-append (λ c. c.piece) chunks (chunk_of chunks coded given x ∷ []))

-- whole chunks, one of them new
pub record OneMore (f : Framing) (chunks : List Chunk) (coded given : List ℕ) : Type 0 where
  pub now : List Chunk
  pub carries : Carries f now (coded ++ codes "\r\n") given left.Chunk
  pub printed : coded ++ codes "\r\n" ≡ print_chunks now

pub piece_ended : (f : Framing) (chunks : List Chunk) (coded given : List ℕ) → Carries f chunks coded given (left.Piece 0) → OneMore f chunks coded given
piece_ended (Sized n) chunks coded given x = absurd x
piece_ended UntilEnd chunks coded given x = absurd x
piece_ended Chunked chunks coded given x = record {
  now = chunks ++ chunk_of chunks coded given x.1 ∷ [];
  carries = (chunk_whole chunks coded given x.1 x.0, (chunk_coded chunks coded given x.1, chunk_given chunks coded given x.1));
  printed = chunk_coded chunks coded given x.1;
}

-- a chunk's line
pub piece_begun : (f : Framing) (chunks : List Chunk) (coded given line : List ℕ) (size : ℕ) → Carries f chunks coded given left.Chunk → 0 < size → IsPart Line line size
    → Carries f chunks (coded ++ line) given (left.Piece size)
piece_begun (Sized n) chunks coded given line size x some p = absurd x
piece_begun UntilEnd chunks coded given line size x some p = absurd x
piece_begun Chunked chunks coded given line size x some p =
    let same : size ≡ 0 + size = omega arith in (
      x.0,
      record {
        line = line;
        got = [];
        some = subst (λ n. 0 < n) same some;
        line_is = subst (λ n. IsPart Line line n) same p;
        coded_is = ap (λ l. l ++ line) x.1.0 ∙ sym (append-nil (print_chunks chunks ++ line));
        given_is = x.1.1 ∙ sym (append-nil (joined chunks));
      },
    )

-- the end of the body
pub body_ended : (f : Framing) (chunks : List Chunk) (coded given last trailers : List ℕ) → Carries f chunks coded given left.Chunk → IsPart Line last 0 → IsPart Trailers trailers 0
    → Carries f chunks (coded ++ (last ++ trailers)) given left.Over
body_ended (Sized n) chunks coded given last trailers x p q = absurd x
body_ended UntilEnd chunks coded given last trailers x p q = absurd x
body_ended Chunked chunks coded given last trailers x p q = (
  x.0,
  record {
    last = last;
    trailers = trailers;
    last_is = p;
    trailers_are = q;
    coded_is = sym (append_assoc coded last trailers) ∙ ap (λ l. (l ++ last) ++ trailers) x.1.0;
    given_is = x.1.1;
  },
)
