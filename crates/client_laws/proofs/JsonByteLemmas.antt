-- The texts of data that a text of bytes is read as are bytes (RFC 8259, section 7).
use Rattle.std.proofs.Common.{◌≡◌, ℕ, ◌+◌, ◌*◌, ◌<◌, List, [], ◌∷◌, ◌++◌, All, Bool, true, false, cond, ◌==◌, ◌&&◌, Option, Some, None, refl, arith}
use Rattle.std.specs.Prelude.{IfSome, option_map, option_and_then, nat_lt, ⊤}
use Rattle.std.specs.Char.{encode_utf8, is_digit, digit_value}
use Rattle.std.proofs.lemmas.Bool.{and_parts}
use Rattle.std.proofs.lemmas.Bool.Decides.{nat_tests}
use Rattle.std.proofs.lemmas.List.Elements.{All-nil, All-cons, All-head, All-tail, All-append}
use Rattle.percent_encoding.proofs.PercentLemmas.{IsByte}
use Rattle.json.specs.Text.{Within, plain, after_backslash, after_u, after_high, content, prepend, code_unit, short_escape, is_high_surrogate, is_low_surrogate, surrogate_pair}
use Rattle.json.specs.Ascii as ascii
use Rattle.client_laws.proofs.ByteLemmas.{encode-bytes}

-- ---- steps

pub cond-good : {A : Type 0} (P : A → Type 0) (b : Bool) (x y : A) → P x → P y → P (cond b x y)
cond-good P true x y h i = h
cond-good P false x y h i = i

pub then-good : {A B : Type 0} (P : A → Type 0) (Q : B → Type 0) (o : Option A) (next : A → Option B)
    → IfSome o P → ((x : A) → P x → IfSome (next x) Q) → IfSome (option_and_then next o) Q
then-good P Q None next h on = tt
then-good P Q (Some x) next h on = on x h

pub map-good : {A B : Type 0} (P : A → Type 0) (Q : B → Type 0) (o : Option A) (f : A → B)
    → IfSome o P → ((x : A) → P x → Q (f x)) → IfSome (option_map f o) Q
map-good P Q None f h on = tt
map-good P Q (Some x) f h on = on x h

-- ---- the content of a string

abbrev pub Bytes : List ℕ → Type 0
Bytes = All IsByte

abbrev OptionBytes : Option (List ℕ) → Type 0
OptionBytes o = IfSome o Bytes

prepend-good : (bytes : List ℕ) (o : Option (List ℕ)) → Bytes bytes → OptionBytes o → OptionBytes (prepend bytes o)
prepend-good bytes o h i = map-good Bytes Bytes o (λ s. bytes ++ s) i (λ s j. All-append IsByte bytes s h j)

one-byte : (b : ℕ) → b < 256 → Bytes (b ∷ [])
one-byte b h = All-cons IsByte b [] h (All-nil IsByte)

abbrev IsUnit : ℕ → Type 0
IsUnit u = u < 65536

unit-good : (a b c d : ℕ) → IfSome (code_unit a b c d) IsUnit
unfolding code_unit
unit-good a b c d = by (is_digit a 16 && is_digit b 16 && is_digit c 16 && is_digit d 16) refl
  where
    by : (v : Bool) → (is_digit a 16 && is_digit b 16 && is_digit c 16 && is_digit d 16) ≡ v
        → IfSome (cond v (Some (digit_value a * 4096 + digit_value b * 256 + digit_value c * 16 + digit_value d)) None) IsUnit
    by false e = tt
    by true e =
        let p = and_parts (is_digit a 16 && is_digit b 16 && is_digit c 16) (is_digit d 16) e in
        let q = and_parts (is_digit a 16 && is_digit b 16) (is_digit c 16) p.0 in
        let r = and_parts (is_digit a 16) (is_digit b 16) q.0 in
        let a16 : digit_value a < 16 = grind (arith, nat_tests, r.0) in
        let b16 : digit_value b < 16 = grind (arith, nat_tests, r.1) in
        let c16 : digit_value c < 16 = grind (arith, nat_tests, q.1) in
        let d16 : digit_value d < 16 = grind (arith, nat_tests, p.1) in
        omega arith

escape-good : (x : ℕ) → x < 256 → IfSome (short_escape x) IsByte
unfolding short_escape
escape-good x small =
    let P = λ (o : Option ℕ). IfSome o IsByte in
    cond-good P _ (Some x) _ small
    (cond-good P (x == ascii.lower_b) (Some ascii.backspace) _ (omega arith) (cond-good P (x == ascii.lower_f) (Some ascii.form_feed) _ (omega arith)
    (cond-good P (x == ascii.lower_n) (Some ascii.line_feed) _ (omega arith) (cond-good P (x == ascii.lower_r) (Some ascii.carriage_return) _ (omega arith)
    (cond-good P (x == ascii.lower_t) (Some ascii.tab) None (omega arith) tt)))))

-- a high surrogate waits for its low one
abbrev IsWithin : Within → Type 0
IsWithin plain = ⊤
IsWithin after_backslash = ⊤
IsWithin after_u = ⊤
IsWithin (after_high h) = h < 56320

-- behind a code unit of its own, and behind the low one of a pair
abbrev unit_content : List ℕ → ℕ → Option (List ℕ)
unit_content xs u = cond (is_high_surrogate u) (content (after_high u) xs) (cond (is_low_surrogate u) None (prepend (encode_utf8 u) (content plain xs)))

abbrev low_content : ℕ → List ℕ → ℕ → Option (List ℕ)
low_content high xs low = cond (is_low_surrogate low) (prepend (encode_utf8 (surrogate_pair high low)) (content plain xs)) None

unit-content : (u : ℕ) (xs : List ℕ) → u < 65536 → (u < 56320 → OptionBytes (content (after_high u) xs)) → OptionBytes (content plain xs)
    → OptionBytes (unit_content xs u)
unit-content u xs unit high more = by (is_high_surrogate u) refl
  where
    by : (v : Bool) → is_high_surrogate u ≡ v
        → OptionBytes (cond v (content (after_high u) xs) (cond (is_low_surrogate u) None (prepend (encode_utf8 u) (content plain xs))))
    by true e = high (grind (arith, nat_tests))
    by false e =
        cond-good OptionBytes (is_low_surrogate u) None (prepend (encode_utf8 u) (content plain xs)) tt
        (prepend-good (encode_utf8 u) (content plain xs) (encode-bytes u (omega arith)) more)

low-content : (high low : ℕ) (xs : List ℕ) → high < 56320 → OptionBytes (content plain xs) → OptionBytes (low_content high xs low)
low-content high low xs less more = by (is_low_surrogate low) refl
  where
    by : (v : Bool) → is_low_surrogate low ≡ v → OptionBytes (cond v (prepend (encode_utf8 (surrogate_pair high low)) (content plain xs)) None)
    by true e =
        let below : low < 57344 = grind (arith, nat_tests) in
        prepend-good (encode_utf8 (surrogate_pair high low)) (content plain xs) (encode-bytes (surrogate_pair high low) (omega arith)) more
    by false e = tt

pub content-good : (w : Within) (xs : List ℕ) → IsWithin w → Bytes xs → IfSome (content w xs) Bytes
unfolding content
content-good plain [] w h = tt
content-good plain (x ∷ xs) w h =
    let rest = All-tail IsByte x xs h in
    cond-good OptionBytes (x == ascii.quote) (Some []) _ (All-nil IsByte)
    (cond-good OptionBytes (x == ascii.backslash) (content after_backslash xs) _ (content-good after_backslash xs tt rest)
    (cond-good OptionBytes (nat_lt x ascii.space) None (prepend (x ∷ []) (content plain xs)) tt
    (prepend-good (x ∷ []) (content plain xs) (one-byte x (All-head IsByte x xs h)) (content-good plain xs tt rest))))
content-good after_backslash [] w h = tt
content-good after_backslash (x ∷ xs) w h =
    let rest = All-tail IsByte x xs h in
    cond-good OptionBytes (x == ascii.lower_u) (content after_u xs) _ (content-good after_u xs tt rest)
    (then-good IsByte Bytes (short_escape x) (λ c. prepend (c ∷ []) (content plain xs)) (escape-good x (All-head IsByte x xs h))
    (λ c small. prepend-good (c ∷ []) (content plain xs) (one-byte c small) (content-good plain xs tt rest)))
content-good after_u [] w h = tt
content-good after_u (a ∷ []) w h = tt
content-good after_u (a ∷ b ∷ []) w h = tt
content-good after_u (a ∷ b ∷ c ∷ []) w h = tt
content-good after_u (a ∷ b ∷ c ∷ d ∷ xs) w h =
    let rest = All-tail IsByte d xs (All-tail IsByte c (d ∷ xs) (All-tail IsByte b (c ∷ d ∷ xs) (All-tail IsByte a (b ∷ c ∷ d ∷ xs) h))) in
    then-good IsUnit Bytes (code_unit a b c d) (unit_content xs) (unit-good a b c d)
    (λ u unit. unit-content u xs unit (λ low. content-good (after_high u) xs low rest) (content-good plain xs tt rest))
content-good (after_high high) [] w h = tt
content-good (after_high high) (s ∷ []) w h = tt
content-good (after_high high) (s ∷ u ∷ []) w h = tt
content-good (after_high high) (s ∷ u ∷ a ∷ []) w h = tt
content-good (after_high high) (s ∷ u ∷ a ∷ b ∷ []) w h = tt
content-good (after_high high) (s ∷ u ∷ a ∷ b ∷ c ∷ []) w h = tt
content-good (after_high high) (s ∷ u ∷ a ∷ b ∷ c ∷ d ∷ xs) w h =
    let four = All-tail IsByte u (a ∷ b ∷ c ∷ d ∷ xs) (All-tail IsByte s (u ∷ a ∷ b ∷ c ∷ d ∷ xs) h) in
    let rest = All-tail IsByte d xs (All-tail IsByte c (d ∷ xs) (All-tail IsByte b (c ∷ d ∷ xs) (All-tail IsByte a (b ∷ c ∷ d ∷ xs) four))) in
    cond-good OptionBytes ((s == ascii.backslash) && (u == ascii.lower_u)) (option_and_then (low_content high xs) (code_unit a b c d)) None
    (then-good IsUnit Bytes (code_unit a b c d) (low_content high xs) (unit-good a b c d)
    (λ low unit. low-content high low xs w (content-good plain xs tt rest)))
    tt
