-- A segment that is escaped: what it is read back as, and which bytes it has none of (RFC 3986, section 2.1).
use Rattle.std.proofs.Common.{◌≡◌, ◌≢◌, ℕ, ◌/◌, ◌%◌, ◌<◌, true, List, [], ◌∷◌, ◌++◌, flat_map, All, refl, ap, ◌∙◌, arith}
use Rattle.std.specs.Char.{is_digit}
use Rattle.std.specs.Fmt.{digit_glyph}
use Rattle.std.proofs.lemmas.Bool.{cond-false, cond_both, ne_eqb}
use Rattle.std.proofs.lemmas.Bool.Decides.{nat_tests}
use Rattle.std.proofs.lemmas.List.Elements.{All-nil, All-cons, All-head, All-tail, All-append, All-weaker}
use Rattle.percent_encoding.specs.Percent.{percent_encode_byte, percent_decode}
use Rattle.percent_encoding.proofs.PercentLemmas.{IsByte, IsEscapeByte, All-percent_encode_byte, percent_decode-nil, percent_decode_not_percent, percent_decode-percent_encode_byte}
use Rattle.form_urlencoded.specs.Form.{is_unchanged, IsUnchanged}
use Rattle.api_routes.specs.Path.{escapes_well}
use Rattle.client_model.specs.Requests.{escaped_byte}

-- a segment as a path has it
abbrev pub escaped : List ℕ → List ℕ
escaped segment = flat_map escaped_byte segment

-- ---- one byte

glyph-is-digit : (d : ℕ) → d < 16 → is_digit (digit_glyph true d) 16 ≡ true
glyph-is-digit d small = grind (arith, nat_tests)

well-plain : (b : ℕ) (rest : List ℕ) → b ≢ 37 → escapes_well (b ∷ rest) ≡ escapes_well rest
unfolding escapes_well
well-plain b [] other = cond-false _ _ _ (ne_eqb b 37 other)
well-plain b (c ∷ []) other = cond-false _ _ _ (ne_eqb b 37 other)
well-plain b (c ∷ d ∷ rest) other = cond-false _ _ _ (ne_eqb b 37 other)

well-escape : (b : ℕ) (rest : List ℕ) → escapes_well (percent_encode_byte b ++ rest) ≡ escapes_well rest
unfolding escapes_well percent_encode_byte
well-escape b rest =
    let high = glyph-is-digit (b / 16 % 16) (omega arith) in
    let low = glyph-is-digit (b % 16) (omega arith) in
    rw (high, low) refl

unchanged-plain : (b : ℕ) → IsUnchanged b → b ≢ 37
unchanged-plain b kept percent = grind (arith, nat_tests)

well-byte : (b : ℕ) (rest : List ℕ) → escapes_well (escaped_byte b ++ rest) ≡ escapes_well rest
well-byte b rest =
    cond_both (is_unchanged b) (b ∷ []) (percent_encode_byte b) (λ x. escapes_well (x ++ rest) ≡ escapes_well rest)
    (λ kept. well-plain b rest (unchanged-plain b kept)) (λ _. well-escape b rest)

decoded-byte : (b : ℕ) (rest : List ℕ) → b < 256 → percent_decode (escaped_byte b ++ rest) ≡ b ∷ percent_decode rest
decoded-byte b rest small =
    cond_both (is_unchanged b) (b ∷ []) (percent_encode_byte b) (λ x. percent_decode (x ++ rest) ≡ b ∷ percent_decode rest)
    (λ kept. percent_decode_not_percent b rest (unchanged-plain b kept)) (λ _. percent_decode-percent_encode_byte b rest small)

-- ---- a segment

-- its escapes are well
pub escaped-well : (s : List ℕ) → escapes_well (escaped s) ≡ true
unfolding escapes_well
escaped-well [] = refl
escaped-well (b ∷ s) = well-byte b (escaped s) ∙ escaped-well s

-- it is decoded to what it was
pub escaped-decoded : (s : List ℕ) → All IsByte s → percent_decode (escaped s) ≡ s
escaped-decoded [] small = percent_decode-nil
escaped-decoded (b ∷ s) small =
    decoded-byte b (escaped s) (All-head IsByte b s small) ∙ ap (λ x. b ∷ x) (escaped-decoded s (All-tail IsByte b s small))

-- neither a slash nor a question mark
abbrev pub IsInside : ℕ → Type 0
IsInside b = (b ≢ 47) × (b ≢ 63)

unchanged-inside : (b : ℕ) → IsUnchanged b → IsInside b
unchanged-inside b kept = (λ slash. grind (arith, nat_tests), λ mark. grind (arith, nat_tests))

escape-inside : (b : ℕ) → IsEscapeByte b → IsInside b
escape-inside b escape = (λ slash. grind arith, λ mark. grind arith)

byte-inside : (b : ℕ) → All IsInside (escaped_byte b)
byte-inside b =
    cond_both (is_unchanged b) (b ∷ []) (percent_encode_byte b) (All IsInside)
    (λ kept. All-cons IsInside b [] (unchanged-inside b kept) (All-nil IsInside))
    (λ _. All-weaker IsEscapeByte IsInside escape-inside (percent_encode_byte b) (All-percent_encode_byte b))

pub escaped-inside : (s : List ℕ) → All IsInside (escaped s)
escaped-inside [] = All-nil IsInside
escaped-inside (b ∷ s) = All-append IsInside (escaped_byte b) (escaped s) (byte-inside b) (escaped-inside s)

-- it is empty only where the segment is
pub escaped-full : (b : ℕ) (s : List ℕ) → (c : ℕ) × (rest : List ℕ) × (escaped (b ∷ s) ≡ c ∷ rest)
unfolding percent_encode_byte
escaped-full b s =
    cond_both (is_unchanged b) (b ∷ []) (percent_encode_byte b) (λ x. (c : ℕ) × (rest : List ℕ) × (x ++ escaped s ≡ c ∷ rest))
    (λ kept. (b, escaped s, refl)) (λ _. (37, _, refl))
