-- Where a text first stands in another.
use Rattle.std.proofs.Common.{nat_lt, length, not, arith, ℕ, ◌≡◌, ◌+◌, List, ◌∷◌, Bool, true, false, cond, Option, Some, None, refl, ap, nat_eq}
use Rattle.std.specs.Prelude.{option_map}
use Rattle.std.specs.List.{starts_with, position, position_or_len}
use Rattle.std.proofs.lemmas.Bool.{ltb-false}
use Rattle.std.proofs.lemmas.List.Sums.{prefix_len-le-length}
use Rattle.lab_shown.specs.Shown.{place_in}

pub unmoved : (o : Option ℕ) → option_map (λ k. k + 0) o ≡ o
unmoved None = refl
unmoved (Some k) = ap Some (omega arith)

pub moved : (n : ℕ) (o : Option ℕ) → option_map (λ k. k + (n + 1)) o ≡ option_map (λ k. k + n) (option_map (λ k. k + 1) o)
moved n None = refl
moved n (Some k) = ap Some (omega arith)

pub at_first : (text : List ℕ) (b : ℕ) (rest : List ℕ) → starts_with nat_eq (b ∷ rest) text ≡ true → place_in text (b ∷ rest) ≡ Some 0
at_first text b rest e = ap (λ t. cond t (Some 0) (option_map (λ k. k + 1) (place_in text rest))) e

pub past_first : (text : List ℕ) (b : ℕ) (rest : List ℕ) → starts_with nat_eq (b ∷ rest) text ≡ false
    → place_in text (b ∷ rest) ≡ option_map (λ k. k + 1) (place_in text rest)
past_first text b rest e = ap (λ t. cond t (Some 0) (option_map (λ k. k + 1) (place_in text rest))) e

pub no_place : (p : ℕ → Bool) (bytes : List ℕ) → None ≡ position p bytes → length bytes ≡ position_or_len p bytes
no_place p bytes e = by (nat_lt (position_or_len p bytes) (length bytes)) refl e
  where
    by : (inside : Bool) → nat_lt (position_or_len p bytes) (length bytes) ≡ inside → None ≡ cond inside (Some (position_or_len p bytes)) None
        → length bytes ≡ position_or_len p bytes
    by true is e = absurd (cc)
    by false is e = omega (arith, ltb-false (position_or_len p bytes) (length bytes) is, prefix_len-le-length (λ c. not (p c)) bytes)
