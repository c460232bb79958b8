-- Pairs of a query, and the text that a value stands for.
use Rattle.std.proofs.Common.{arith, ◌==◌, nat_lt, ◌≡◌, ◌<◌, ◌≤◌, ◌⊎◌, inl, inr, ◌-◌, ◌+◌, ℕ, suc, List, [], ◌∷◌, length, take, drop, get_or, Bool, true, false, cond, not, Some, None, refl, sym, ap, ◌∙◌}
use Rattle.std.specs.List.{slice_split, onto_first, position, position_or_len, prefix_len, before_first, after_first}
use Rattle.std.proofs.lemmas.Bool.{cases_lt, ltb-true, ltb-false}
use Rattle.std.proofs.lemmas.List.{take_all}
use Rattle.std.proofs.lemmas.Bool.Decides.{nat_tests}
use Rattle.std.proofs.lemmas.List.Sums.{prefix_len-le-length}
use Rattle.std.proofs.lemmas.List.Splits.{slice_split_first}
use Rattle.lab_front.specs.Queries.{value_in, or_next, first_value, plain, escaped, byte_or, decoded, spells}

-- ---- places

pub found_place : (p : ℕ → Bool) (bytes : List ℕ) (place : ℕ) → Some place ≡ position p bytes → (place ≡ position_or_len p bytes) × (place ≤ length bytes)
found_place p bytes place e = by (nat_lt (position_or_len p bytes) (length bytes)) refl e
  where
    by : (inside : Bool) → nat_lt (position_or_len p bytes) (length bytes) ≡ inside → Some place ≡ cond inside (Some (position_or_len p bytes)) None
        → (place ≡ position_or_len p bytes) × (place ≤ length bytes)
    by true is e =
        let same : place ≡ position_or_len p bytes = cc in
        (same, omega (arith, same, ltb-true (position_or_len p bytes) (length bytes) is))
    by false is e = absurd (cc)

pub no_place : (p : ℕ → Bool) (bytes : List ℕ) → None ≡ position p bytes → length bytes ≡ position_or_len p bytes
no_place p bytes e = by (nat_lt (position_or_len p bytes) (length bytes)) refl e
  where
    by : (inside : Bool) → nat_lt (position_or_len p bytes) (length bytes) ≡ inside → None ≡ cond inside (Some (position_or_len p bytes)) None
        → length bytes ≡ position_or_len p bytes
    by true is e = absurd (cc)
    by false is e = omega (arith, ltb-false (position_or_len p bytes) (length bytes) is, prefix_len-le-length (λ c. not (p c)) bytes)

-- ---- pairs

split_none : (p : ℕ → Bool) (bytes : List ℕ) → length bytes ≤ position_or_len p bytes → slice_split p bytes ≡ bytes ∷ []
split_none p [] h = refl
split_none p (b ∷ bytes) h = by (p b) (split_none p bytes) h
  where
    by : (here : Bool) → (length bytes ≤ position_or_len p bytes → slice_split p bytes ≡ bytes ∷ [])
        → suc (length bytes) ≤ cond (not here) (1 + prefix_len (λ c. not (p c)) bytes) 0
        → cond here ([] ∷ slice_split p bytes) (onto_first b (slice_split p bytes)) ≡ (b ∷ bytes) ∷ []
    by true rest h = absurd (omega arith)
    by false rest h = ap (onto_first b) (rest (omega arith))

-- the last pair
pub last_pair : (p : ℕ → Bool) (name bytes : List ℕ) → length bytes ≤ position_or_len p bytes → value_in name (before_first p bytes) ≡ None
    → first_value name (slice_split p bytes) ≡ None
last_pair p name bytes le none =
    ap (first_value name) (split_none p bytes le)
    ∙ ap (λ o. or_next o None) (ap (value_in name) (sym (take_all (position_or_len p bytes) bytes le)) ∙ none)

-- a pair that isn't the last one
pub next_pair : (p : ℕ → Bool) (name bytes : List ℕ) → position_or_len p bytes < length bytes → value_in name (before_first p bytes) ≡ None
    → first_value name (slice_split p bytes) ≡ first_value name (slice_split p (after_first p bytes))
next_pair p name bytes less none =
    ap (first_value name) (slice_split_first p bytes 0 less)
    ∙ ap (λ o. or_next o (first_value name (slice_split p (after_first p bytes)))) none

-- the first pair has the value
pub this_pair : (p : ℕ → Bool) (name bytes value : List ℕ) → position_or_len p bytes ≤ length bytes → value_in name (before_first p bytes) ≡ Some value
    → first_value name (slice_split p bytes) ≡ Some value
this_pair p name bytes value le found = by (cases_lt (position_or_len p bytes) (length bytes))
  where
    by : (position_or_len p bytes < length bytes) ⊎ (length bytes ≤ position_or_len p bytes) → first_value name (slice_split p bytes) ≡ Some value
    by (inl less) =
        ap (first_value name) (slice_split_first p bytes 0 less)
        ∙ ap (λ o. or_next o (first_value name (slice_split p (after_first p bytes)))) found
    by (inr all) =
        ap (first_value name) (split_none p bytes all)
        ∙ ap (λ o. or_next o None) (ap (value_in name) (sym (take_all (position_or_len p bytes) bytes all)) ∙ found)

-- ---- escapes

-- too short for an escape
pub decoded_short : (b : ℕ) (rest : List ℕ) → length rest < 2 → decoded (b ∷ rest) ≡ plain b ∷ decoded rest
unfolding decoded
decoded_short b [] less = refl
decoded_short b (c ∷ []) less = refl
decoded_short b (c ∷ d ∷ rest) less = absurd (omega (arith, less))

pub decoded_escape : (b value : ℕ) (rest : List ℕ) → 2 ≤ length rest → escaped b (get_or rest 0 0) (get_or rest 1 0) ≡ Some value
    → decoded (b ∷ rest) ≡ value ∷ decoded (take (length rest - 2) (drop 2 rest))
unfolding decoded
decoded_escape b value [] some e = absurd (omega (arith, some))
decoded_escape b value (c ∷ []) some e = absurd (omega (arith, some))
decoded_escape b value (high ∷ low ∷ rest) some e =
    ap (λ o. byte_or o (decoded rest) (plain b ∷ decoded (high ∷ low ∷ rest))) e
    ∙ ap (λ l. value ∷ decoded l) (sym (take_all (length (high ∷ low ∷ rest) - 2) rest (omega arith)))

pub decoded_plain : (b : ℕ) (rest : List ℕ) → 2 ≤ length rest → escaped b (get_or rest 0 0) (get_or rest 1 0) ≡ None
    → decoded (b ∷ rest) ≡ plain b ∷ decoded rest
unfolding decoded
decoded_plain b [] some e = absurd (omega (arith, some))
decoded_plain b (c ∷ []) some e = absurd (omega (arith, some))
decoded_plain b (high ∷ low ∷ rest) some e = ap (λ o. byte_or o (decoded rest) (plain b ∷ decoded (high ∷ low ∷ rest))) e

-- ---- the end of a value

not_zero : (n : ℕ) → (suc n == 0) ≡ false
not_zero n = grind (arith, nat_tests)

pub nothing_left : (left wanted : List ℕ) → length left < 1 → (length wanted == 0) ≡ spells left wanted
unfolding decoded
nothing_left [] [] less = refl
nothing_left [] (w ∷ wanted) less = not_zero (length wanted)
nothing_left (b ∷ left) wanted less = absurd (omega (arith, less))
