-- Bytes that are on their way out, part by part.
use Rattle.std.proofs.Common.{arith, ◌≡◌, ◌<◌, ◌≤◌, ◌+◌, ℕ, zero, suc, List, [], ◌∷◌, ◌++◌, length, length-drop, length-take, take, drop, refl, sym, ◌∙◌, ap, append_assoc, append-nil}
use Rattle.std.proofs.Math.ListN.{drop_of_length-le}
use Rattle.std.proofs.Math.Seq.{drop-nil}
use Rattle.std.proofs.lemmas.List.{drop-append-le, take-append-drop, take-append-le}
use Rattle.engine_ports.specs.Sink.{IsFront}
use Rattle.polled_steps.specs.Bytes.{first_some}

-- more is dropped
pub drop_more : (n m : ℕ) (l : List ℕ) → drop (n + m) l ≡ drop m (drop n l)
drop_more zero m l = let e : zero + m ≡ m = omega arith in ap (λ k. drop k l) e
drop_more (suc n) m [] = drop-nil (suc n + m) ∙ sym (drop-nil m)
drop_more (suc n) m (x ∷ l) = let e : suc n + m ≡ suc (n + m) = omega arith in ap (λ k. drop k (x ∷ l)) e ∙ drop_more n m l

-- nothing is left of a part of which all was written
pub none_left : (n : ℕ) (l : List ℕ) → length l ≤ n → drop n l ≡ []
none_left n l all = drop_of_length-le l all

-- ---- what is written next

pub next_front : (a b c : List ℕ) → 0 < length a → first_some a b c ≡ a
next_front [] b c some = absurd (omega (arith, some))
next_front (x ∷ a) b c some = refl

pub next_body : (a b c : List ℕ) → a ≡ [] → 0 < length b → first_some a b c ≡ b
next_body a [] c none some = absurd (omega (arith, some))
next_body a (y ∷ b) c none some = ap (λ z. first_some z (y ∷ b) c) none

pub next_tail : (a b c : List ℕ) → a ≡ [] → b ≡ [] → first_some a b c ≡ c
next_tail a b c none none' = ap (λ z. first_some z b c) none ∙ ap (λ z. first_some [] z c) none'

pub none_by : (l : List ℕ) → length l ≤ 0 → l ≡ []
none_by [] none = refl
none_by (x ∷ l) none = absurd (omega (arith, none))

-- ---- so many of these bytes were written

-- of the front
pub front_on : (sent count : ℕ) (l b c : List ℕ) → sent < length l → count ≤ length (first_some (drop sent l) b c)
    → drop (sent + count) l ++ b ++ c ≡ drop count (drop sent l ++ b ++ c)
front_on sent count l b c some fits =
    let some' : 0 < length (drop sent l) = omega (arith, length-drop sent l, some) in
    let fits' : count ≤ length (drop sent l) = omega (arith, fits, ap length (next_front (drop sent l) b c some')) in
    ap (λ y. y ++ b ++ c) (drop_more sent count l) ∙ append_assoc (drop count (drop sent l)) b c
    ∙ sym (drop-append-le count (drop sent l) (b ++ c) fits') ∙ ap (drop count) (sym (append_assoc (drop sent l) b c))

pub front_fits : (sent count : ℕ) (l b c : List ℕ) → sent < length l → count ≤ length (first_some (drop sent l) b c) → sent + count ≤ length l
front_fits sent count l b c some fits =
    let some' : 0 < length (drop sent l) = omega (arith, length-drop sent l, some) in
    omega (arith, fits, ap length (next_front (drop sent l) b c some'), length-drop sent l, some)

-- of the body, behind a front that was written
pub body_on : (before sent count : ℕ) (l b c : List ℕ) → length l ≤ before → sent < length b → count ≤ length (first_some (drop before l) (drop sent b) c)
    → drop before l ++ drop (sent + count) b ++ c ≡ drop count (drop before l ++ drop sent b ++ c)
body_on before sent count l b c all some fits =
    let none : drop before l ≡ [] = none_left before l all in
    let some' : 0 < length (drop sent b) = omega (arith, length-drop sent b, some) in
    let fits' : count ≤ length (drop sent b) = omega (arith, fits, ap length (next_body (drop before l) (drop sent b) c none some')) in
    ap (λ y. y ++ drop (sent + count) b ++ c) none ∙ ap (λ y. y ++ c) (drop_more sent count b)
    ∙ sym (drop-append-le count (drop sent b) c fits') ∙ ap (λ y. drop count (y ++ drop sent b ++ c)) (sym none)

pub body_fits : (before sent count : ℕ) (l b c : List ℕ) → length l ≤ before → sent < length b → count ≤ length (first_some (drop before l) (drop sent b) c)
    → sent + count ≤ length b
body_fits before sent count l b c all some fits =
    let some' : 0 < length (drop sent b) = omega (arith, length-drop sent b, some) in
    omega (arith, fits, ap length (next_body (drop before l) (drop sent b) c (none_left before l all) some'), length-drop sent b, some)

-- of what stands behind them
pub tail_on : (m n sent count : ℕ) (l b c : List ℕ) → length l ≤ m → length b ≤ n → sent < length c
    → count ≤ length (first_some (drop m l) (drop n b) (drop sent c))
    → drop m l ++ drop n b ++ drop (sent + count) c ≡ drop count (drop m l ++ drop n b ++ drop sent c)
tail_on m n sent count l b c all all' some fits =
    let none : drop m l ≡ [] = none_left m l all in
    let none' : drop n b ≡ [] = none_left n b all' in
    ap (λ y. y ++ drop n b ++ drop (sent + count) c) none ∙ ap (λ y. y ++ drop (sent + count) c) none' ∙ drop_more sent count c
    ∙ ap (λ y. drop count (y ++ drop sent c)) (sym none') ∙ ap (λ y. drop count (y ++ drop n b ++ drop sent c)) (sym none)

pub tail_fits : (m n sent count : ℕ) (l b c : List ℕ) → length l ≤ m → length b ≤ n → sent < length c
    → count ≤ length (first_some (drop m l) (drop n b) (drop sent c)) → sent + count ≤ length c
tail_fits m n sent count l b c all all' some fits =
    omega (arith, fits, ap length (next_tail (drop m l) (drop n b) (drop sent c) (none_left m l all) (none_left n b all')), length-drop sent c, some)

-- of nothing none
pub all_on : (m n sent count : ℕ) (l b c : List ℕ) → length l ≤ m → length b ≤ n → length c ≤ sent
    → count ≤ length (first_some (drop m l) (drop n b) (drop sent c)) → drop m l ++ drop n b ++ drop sent c ≡ drop count (drop m l ++ drop n b ++ drop sent c)
all_on m n sent count l b c all all' all'' fits =
    let e = ap length (next_tail (drop m l) (drop n b) (drop sent c) (none_left m l all) (none_left n b all') ∙ none_left sent c all'') in
    let none : count ≡ 0 = omega (arith, fits, e) in
    ap (λ k. drop k (drop m l ++ drop n b ++ drop sent c)) (sym none)

-- ---- a write of some

-- what is written next stands in front of the rest
pub next_is_front : (a b c : List ℕ) → IsFront (first_some a b c) (a ++ b ++ c)
next_is_front [] [] c = ([], append-nil c)
next_is_front [] (y ∷ b) c = (c, refl)
next_is_front (x ∷ a) b c = (b ++ c, sym (append_assoc (x ∷ a) b c))

-- so do the bytes of it that were written
pub written_so : (n : ℕ) (next rest : List ℕ) → n ≤ length next → IsFront next rest → rest ≡ take n next ++ drop n rest
written_so n next rest fits (more, is) =
    sym (take-append-drop n rest)
    ∙ ap (λ y. y ++ drop n rest) (ap (take n) (sym is) ∙ take-append-le n next more fits)

pub sent_some : (n : ℕ) (piece next rest left : List ℕ) → piece ≡ next → IsFront next rest → 0 < n → n ≤ length piece → left ≡ drop n rest
    → (0 < length (take n piece)) × (rest ≡ take n piece ++ left)
sent_some n piece next rest left is front some fits more = (
  omega (arith, length-take n piece, some, fits),
  written_so n next rest (omega (arith, fits, ap length is)) front ∙ ap (λ y. take n y ++ drop n rest) (sym is) ∙ ap (λ y. take n piece ++ y) (sym more),
)
