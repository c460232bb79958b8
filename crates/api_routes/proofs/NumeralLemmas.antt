-- What `parse` gives of a numeral.
use Rattle.std.proofs.Common.{◌≡◌, ◌≤◌, ◌<◌, ℕ, List, Bool, true, false, Result, Ok, Option, Some, None, IfSome, refl, sym, subst, cond, ◌&&◌, ◌^◌, leb, length, arith}
use Rattle.std.specs.Str.{all_ascii_digits}
use Rattle.std.specs.Str.Parse.{digits_value, ParsesUnsigned}
use Rattle.std.proofs.lemmas.Bool.Decides.{nat_tests}
use Rattle.std.proofs.lemmas.Str.Parse.{IsNumeralModel, parse_gives, numerals_by_value, tells_all_ascii_digits, digits_value_short}
use Rattle.api_routes.specs.Numeral.{is_numeral, number_of}

both : (a b : Bool) → (a && b) ≡ true → (a ≡ true) × (b ≡ true)
both true true e = (refl, refl)
both true false e = (refl, e)
both false b e = (e, absurd (cc e))

digits : IsNumeralModel (λ ds. all_ascii_digits ds ≡ true) (digits_value 10)
digits = numerals_by_value (λ ds. all_ascii_digits ds ≡ true) tells_all_ascii_digits

-- its parts
are-digits : (most : ℕ) (bs : List ℕ) → is_numeral most bs ≡ true → all_ascii_digits bs ≡ true
are-digits most bs e = (both (leb 1 (length bs) && leb (length bs) most) (all_ascii_digits bs) e).1

is-short : (most : ℕ) (bs : List ℕ) → is_numeral most bs ≡ true → (1 ≤ length bs) × (length bs ≤ most)
is-short most bs e =
    let p = (both (leb 1 (length bs) && leb (length bs) most) (all_ascii_digits bs) e).0 in
    let q = both (leb 1 (length bs)) (leb (length bs) most) p in
    (grind (arith, nat_tests), grind (arith, nat_tests))

pub parsed : {E : Type 0} (most : ℕ) (bs : List ℕ) (r : Result ℕ E) → most ≤ 19 → ParsesUnsigned 64 10 bs r → is_numeral most bs ≡ true → r ≡ Ok (digits_value 10 bs)
parsed most bs r small h e =
    let s = is-short most bs e in
    let short = digits_value_short digits bs 19 (are-digits most bs e) (omega arith) in
    parse_gives digits 64 bs r h (are-digits most bs e) (omega arith) (omega (arith, short))

pub number-small : (most : ℕ) (bs : List ℕ) (o : Option ℕ) → o ≡ number_of most bs → IfSome o (λ n. n < 10 ^ most)
number-small most bs o e = subst (λ o. IfSome o (λ n. n < 10 ^ most)) (sym e) (by (is_numeral most bs) refl)
  where
    by : (b : Bool) → is_numeral most bs ≡ b → IfSome (cond b (Some (digits_value 10 bs)) None) (λ n. n < 10 ^ most)
    by true h = digits_value_short digits bs most (are-digits most bs h) (is-short most bs h).1
    by false h = tt
