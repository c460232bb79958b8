-- What the parser says of bytes, as parts of a body by chunks.
use Rattle.std.proofs.Common.{arith, ◌≡◌, ◌<◌, ◌≤◌, ℕ, List, [], ◌∷◌, ◌++◌, length, get_or, ap, refl, ◌∙◌, append-nil, length-append}
use Rattle.std.specs.Prelude.{codes}
use Rattle.httparse.specs.Grammar.{print_chunk_line, HasNoChunkLine, NeverHasChunkLine, MayBecomeChunkLine, print_section, HasNoSection, NeverHasSection, MayBecomeSection, chunk_size}
use Rattle.http_edge.specs.Parts.{HasNoPart, NeverHasPart, MayBecomePart}
use Rattle.http_edge.specs.declared.parts.Part.TheVariants.{Line, End, Trailers}

no_line : (bytes : List ℕ) → HasNoChunkLine bytes → HasNoPart Line bytes
no_line bytes none text behind size p e = none p.0 behind (p.1, e ∙ ap (λ l. l ++ behind) p.2)

pub line_piece : (bytes : List ℕ) → HasNoChunkLine bytes → MayBecomeChunkLine bytes → HasNoPart Line bytes × MayBecomePart Line bytes
line_piece bytes none may = (no_line bytes none, (may.0, chunk_size may.1, (may.1, may.2.0, may.2.1 ∙ append-nil (print_chunk_line may.1), refl)))

pub line_never : (bytes : List ℕ) → NeverHasChunkLine bytes → NeverHasPart Line bytes
line_never bytes never more = no_line (bytes ++ more) (never more)

no_section : (bytes : List ℕ) → HasNoSection bytes → HasNoPart Trailers bytes
no_section bytes none text behind size p e = none p.0 p.1 behind (p.2, e ∙ ap (λ l. l ++ behind) p.3)

pub section_piece : (bytes : List ℕ) → HasNoSection bytes → MayBecomeSection bytes → HasNoPart Trailers bytes × MayBecomePart Trailers bytes
section_piece bytes none may =
    (no_section bytes none, (may.0, 0, (may.1, may.2, may.3.0, may.3.1 ∙ append-nil (print_section may.1 may.2), refl)))

pub trailers_never : (bytes : List ℕ) → NeverHasSection bytes → NeverHasPart Trailers bytes
trailers_never bytes never more = no_section (bytes ++ more) (never more)

no_end : (bytes : List ℕ) → length bytes < 2 → HasNoPart End bytes
no_end bytes short text behind size p e = omega (arith, short, ap length e, ap length p.0, length-append text behind)

pub end_of_none : (bytes : List ℕ) → length bytes < 1 → HasNoPart End bytes × MayBecomePart End bytes
end_of_none [] short = (no_end [] (omega arith), (codes "\r\n", 0, (refl, refl)))
end_of_none (b ∷ bytes) short = absurd (omega (arith, short))

pub end_of_one : (bytes : List ℕ) → 1 ≤ length bytes → length bytes < 2 → get_or bytes 0 0 ≡ 13 → HasNoPart End bytes × MayBecomePart End bytes
end_of_one [] some short is = absurd (omega (arith, some))
end_of_one (b ∷ []) some short is = (no_end (b ∷ []) short, (10 ∷ [], 0, (ap (λ c. c ∷ 10 ∷ []) is, refl)))
end_of_one (b ∷ c ∷ bytes) some short is = absurd (omega (arith, short))
