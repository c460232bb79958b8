-- What 1 to 18 digits write.
use Rattle.std.proofs.Common.{arith, ◌≡◌, ◌<◌, ◌≤◌, ℕ, List, [], ◌∷◌, length, take, get_or, true, ◌&&◌, zero, suc}
use Rattle.std.specs.Prelude.{nat_lt, nat_le}
use Rattle.std.specs.List.{list_all}
use Rattle.std.specs.Char.{digit_value, is_ascii_digit}
use Rattle.std.specs.Str.Parse.{AllDigits, digits_value}
use Rattle.std.proofs.Math.Nat.{pow-le-pow_right}
use Rattle.std.proofs.lemmas.Bool.{and_parts}
use Rattle.std.proofs.lemmas.Bool.Decides.{nat_tests}
use Rattle.std.proofs.lemmas.List.{length-take-le}
use Rattle.std.proofs.lemmas.Int.Digits.{digits_value-lt}
use Rattle.std.proofs.lemmas.Str.Parse.{digit_at}
use Rattle.http_edge.specs.Framing.{is_length}

digit_small : (c : ℕ) → is_ascii_digit c ≡ true → digit_value c < 10
digit_small c is = grind (arith, nat_tests)

all_digits : (ds : List ℕ) → list_all is_ascii_digit ds ≡ true → AllDigits 10 ds
all_digits [] all = tt
all_digits (c ∷ cs) all = let parts = and_parts _ _ all in (digit_small c parts.0, all_digits cs parts.1)

front_digits : (ds : List ℕ) (i : ℕ) → AllDigits 10 ds → AllDigits 10 (take i ds)
front_digits [] zero all = tt
front_digits [] (suc i) all = tt
front_digits (c ∷ cs) zero all = tt
front_digits (c ∷ cs) (suc i) all = (all.0, front_digits cs i all.1)

pub is_digits : (ds : List ℕ) → is_length ds ≡ true → (length ds ≤ 18) × AllDigits 10 ds
is_digits ds is =
    let parts = and_parts (nat_lt 0 (length ds) && nat_le (length ds) 18) (list_all is_ascii_digit ds) is in
    let first = and_parts (nat_lt 0 (length ds)) (nat_le (length ds) 18) parts.0 in
    let short : nat_le (length ds) 18 ≡ true = first.1 in
    let le : length ds ≤ 18 = grind (arith, nat_tests) in
    (le, all_digits ds parts.1)

-- less than 18 digits write a small number
pub small_value : (ds : List ℕ) (i : ℕ) → is_length ds ≡ true → i < length ds → digits_value 10 (take i ds) < 100000000000000000
small_value ds i is lt =
    let parts = is_digits ds is in
    let ten : 0 < 10 = omega arith in
    let len : length (take i ds) ≤ 17 = omega (arith, parts.0, length-take-le i ds (omega arith)) in
    omega (arith, digits_value-lt 10 (take i ds) (front_digits ds i parts.1), pow-le-pow_right ten len)

pub digit_range : (ds : List ℕ) (i : ℕ) → is_length ds ≡ true → i < length ds → (48 ≤ get_or ds i 0) × (get_or ds i 0 ≤ 57)
digit_range ds i is lt =
    let at = digit_at ds i (is_digits ds is).1 lt in
    (at.0, at.1)
