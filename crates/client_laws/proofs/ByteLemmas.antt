-- The bytes of a text are bytes.
use Rattle.std.proofs.Common.{◌≡◌, ℕ, ◌+◌, ◌/◌, ◌%◌, ◌<◌, true, List, [], ◌∷◌, All, IsUtf8, subst, ⊎_elim, arith, ltb}
use Rattle.std.proofs.Math.Utf8.{scalar, scalars, encode, encodes, scalar_cases}
use Rattle.std.proofs.lemmas.Bool.{cond_both, and_parts}
use Rattle.std.proofs.lemmas.Bool.Decides.{nat_tests}
use Rattle.std.proofs.lemmas.List.Elements.{All-nil, All-cons, All-append}
use Rattle.percent_encoding.proofs.PercentLemmas.{IsByte}

within : (c : ℕ) → scalar c ≡ true → c < 1114112
within c e = ⊎_elim (λ h. omega arith) (λ h. omega arith) (scalar_cases c e)

one : (a : ℕ) → a < 256 → All IsByte (a ∷ [])
one a h = All-cons IsByte a [] h (All-nil IsByte)

two : (a b : ℕ) → a < 256 → b < 256 → All IsByte (a ∷ b ∷ [])
two a b h i = All-cons IsByte a (b ∷ []) h (one b i)

three : (a b c : ℕ) → a < 256 → b < 256 → c < 256 → All IsByte (a ∷ b ∷ c ∷ [])
three a b c h i j = All-cons IsByte a (b ∷ c ∷ []) h (two b c i j)

four : (a b c d : ℕ) → a < 256 → b < 256 → c < 256 → d < 256 → All IsByte (a ∷ b ∷ c ∷ d ∷ [])
four a b c d h i j k = All-cons IsByte a (b ∷ c ∷ d ∷ []) h (three b c d i j k)

pub encode-bytes : (c : ℕ) → c < 1114112 → All IsByte (encode c)
unfolding encode
encode-bytes c most =
    cond_both (ltb c 128) _ _ (All IsByte) (λ small. one c (grind (arith, nat_tests)))
    (λ _. cond_both (ltb c 2048) _ _ (All IsByte) (λ small. two (192 + c / 64) (128 + c % 64) (grind (arith, nat_tests)) (omega arith))
    (λ _. cond_both (ltb c 65536) _ _ (All IsByte) (λ small. three (224 + c / 4096) (128 + c / 64 % 64) (128 + c % 64) (grind (arith, nat_tests)) (omega arith) (omega arith))
    (λ _. four (240 + c / 262144) (128 + c / 4096 % 64) (128 + c / 64 % 64) (128 + c % 64) (omega arith) (omega arith) (omega arith) (omega arith))))

encodes-bytes : (cs : List ℕ) → scalars cs ≡ true → All IsByte (encodes cs)
encodes-bytes [] e = All-nil IsByte
encodes-bytes (c ∷ cs) e =
    let parts = and_parts (scalar c) (scalars cs) e in
    All-append IsByte (encode c) (encodes cs) (encode-bytes c (within c parts.0)) (encodes-bytes cs parts.1)

pub utf8-bytes : (s : List ℕ) → IsUtf8 s → All IsByte s
utf8-bytes s u = subst (All IsByte) u.1.1 (encodes-bytes u.0 u.1.0)
