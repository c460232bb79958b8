-- Bytes begin with one part of a kind at most, and with none where it is refused or cut.
use Rattle.std.proofs.Common.{arith, ◌≡◌, ◌<◌, ◌≤◌, ◌⊎◌, inl, inr, ℕ, List, [], ◌++◌, length, ◌+◌, ◌-◌, take, drop, sym, ap, subst, refl, ◌∙◌, append_assoc, append-nil, length-append}
use Rattle.std.proofs.lemmas.Bool.{cases_lt}
use Rattle.std.proofs.lemmas.List.{take-append-le, take_at, drop_at, take_all}
use Rattle.std.proofs.Math.Seq.{take-append-add}
use Rattle.httparse.proofs.GrammarLemmas.{section_unique}
use Rattle.httparse.proofs.ChunkLemmas.{chunk_line_unique}
use Rattle.httparse.specs.Grammar.{print_chunk_line, chunk_size, print_section}
use Rattle.http_edge.specs.Parts.{part_limit, part_window, IsText, IsPart, HasNoPart, RefusesPart, CutsPart}
use Rattle.http_edge.specs.declared.parts.Part.{Part}
use Rattle.http_edge.specs.declared.parts.Part.TheVariants.{Line, End, Trailers}

pub same_parts : (a b c d : List ℕ) → length a ≡ length b → a ++ c ≡ b ++ d → (a ≡ b) × (c ≡ d)
same_parts a b c d len e = (
  sym (take_at a c (length a) refl) ∙ ap (take (length a)) e ∙ take_at b d (length a) (sym len),
  sym (drop_at a c (length a) refl) ∙ ap (drop (length a)) e ∙ drop_at b d (length a) (sym len),
)

-- the first bytes of more bytes begin with the first of these
pub window_longer : (n : ℕ) (bytes more : List ℕ) → (rest : List ℕ) × (take n (bytes ++ more) ≡ take n bytes ++ rest)
window_longer n bytes more = go (cases_lt n (length bytes))
  where
    go : (n < length bytes) ⊎ (length bytes ≤ n) → (rest : List ℕ) × (take n (bytes ++ more) ≡ take n bytes ++ rest)
    go (inl long) = ([], take-append-le n bytes more (omega (arith, long)) ∙ sym (append-nil (take n bytes)))
    go (inr short) =
        let sum : n ≡ length bytes + (n - length bytes) = omega (arith, short) in (
          take (n - length bytes) more,
          ap (λ k. take k (bytes ++ more)) sum ∙ take-append-add bytes more (n - length bytes)
              ∙ ap (λ l. l ++ take (n - length bytes) more) (sym (take_all n bytes short)),
        )

pub part_unique : (kind : Part) (a b x y : List ℕ) (m n : ℕ) → IsText kind a m → IsText kind b n → a ++ x ≡ b ++ y → (a ≡ b) × (m ≡ n) × (x ≡ y)
part_unique Line a b x y m n p q e =
    let same = chunk_line_unique (a ++ x) p.0 q.0 x y (p.1, ap (λ l. l ++ x) p.2) (q.1, e ∙ ap (λ l. l ++ y) q.2) in
    (p.2 ∙ ap print_chunk_line same.0 ∙ sym q.2, p.3 ∙ ap chunk_size same.0 ∙ sym q.3, same.1)
part_unique End a b x y m n p q e =
    let same : a ≡ b = p.0 ∙ sym q.0 in
    (same, p.1 ∙ sym q.1, (same_parts a b x y (ap length same) e).1)
part_unique Trailers a b x y m n p q e =
    let same = section_unique (a ++ x) p.0 q.0 p.1 q.1 x y (p.2, ap (λ l. l ++ x) p.3) (q.2, e ∙ ap (λ l. l ++ y) q.3) in
    (p.3 ∙ (λ i. print_section (same.0 i) (same.1 i)) ∙ sym q.3, p.4 ∙ sym q.4, same.2)

-- a part within its limit stands in the window
in_window : (kind : Part) (bytes text behind : List ℕ) (size : ℕ) → IsPart kind text size → bytes ≡ text ++ behind
    → part_window kind bytes ≡ text ++ take (part_limit kind - length text) behind
in_window kind bytes text behind size p e =
    let le = p.1 in
    let sum : part_limit kind ≡ length text + (part_limit kind - length text) = omega (arith, le) in
    ap (take (part_limit kind)) e ∙ ap (λ k. take k (text ++ behind)) sum ∙ take-append-add text behind (part_limit kind - length text)

pub refused_part : (kind : Part) (bytes text behind : List ℕ) (size : ℕ) → RefusesPart kind bytes → IsPart kind text size → bytes ≡ text ++ behind → ⊥
refused_part kind bytes text behind size (inl never) p e =
    never [] text (take (part_limit kind - length text) behind) size p.0 (append-nil (part_window kind bytes) ∙ in_window kind bytes text behind size p e)
refused_part kind bytes text behind size (inr long) p e =
    long.1 text (take (part_limit kind - length text) behind) size p.0 (in_window kind bytes text behind size p e)

pub cut_part : (kind : Part) (bytes text behind : List ℕ) (size : ℕ) → CutsPart kind bytes → IsPart kind text size → bytes ≡ text ++ behind → ⊥
cut_part kind bytes text behind size cuts p e = cuts.1 text behind size p.0 e

-- what is refused stays refused
pub refused_longer : (kind : Part) (bytes more : List ℕ) → RefusesPart kind bytes → RefusesPart kind (bytes ++ more)
refused_longer kind bytes more (inl never) =
    let w = window_longer (part_limit kind) bytes more in
    inl (λ later text behind size p e. never (w.0 ++ later) text behind size p
    (sym (append_assoc (part_window kind bytes) w.0 later) ∙ ap (λ l. l ++ later) (sym w.1) ∙ e))
refused_longer kind bytes more (inr long) =
    let fits = long.0 in
    let same : part_window kind (bytes ++ more) ≡ part_window kind bytes = take-append-le (part_limit kind) bytes more fits in
    inr (omega (arith, fits, length-append bytes more), subst (HasNoPart kind) (sym same) long.1)
