-- What `parse` gives of one to 13 digits.
use Rattle.std.proofs.Common.{◌≡◌, ◌≤◌, ◌<◌, ℕ, List, [], ◌∷◌, true, Option, Result, Some, None, refl, sym, ap, ◌∙◌, ◌&&◌, leb, length, arith, if◌then◌else◌}
use Rattle.std.specs.Char.{is_ascii_digit}
use Rattle.std.specs.List.{list_all}
use Rattle.std.specs.Result.{result_ok}
use Rattle.std.specs.Str.{all_ascii_digits}
use Rattle.std.specs.Str.Parse.{digits_value, ParsesUnsigned}
use Rattle.std.proofs.lemmas.Bool.{and_parts}
use Rattle.std.proofs.lemmas.Bool.Decides.{nat_tests}
use Rattle.std.proofs.lemmas.Str.Parse.{IsNumeralModel, parse_gives, numerals_by_value, tells_all_ascii_digits, digits_value_short}
use Rattle.lab_control.specs.Asking.{is_number, number_in}

digits : IsNumeralModel (λ ds. all_ascii_digits ds ≡ true) (digits_value 10)
digits = numerals_by_value (λ ds. all_ascii_digits ds ≡ true) tells_all_ascii_digits

same_test : (ds : List ℕ) → all_ascii_digits ds ≡ list_all is_ascii_digit ds
same_test [] = refl
same_test (c ∷ cs) = ap (λ t. is_ascii_digit c && t) (same_test cs)

pub number_read : {E : Type 0} (word : List ℕ) (r : Result ℕ E) → ParsesUnsigned 64 10 word r → is_number word ≡ true
    → result_ok r ≡ number_in word
number_read word r h is =
    let parts = and_parts (leb 1 (length word) && leb (length word) 13) (list_all is_ascii_digit word) is in
    let all : all_ascii_digits word ≡ true = same_test word ∙ parts.1 in
    let sizes = and_parts (leb 1 (length word)) (leb (length word) 13) parts.0 in
    let some : 1 ≤ length word = grind (arith, nat_tests) in
    let few : length word ≤ 13 = grind (arith, nat_tests) in
    ap result_ok (parse_gives digits 64 word r h all (omega arith) (omega (arith, digits_value_short digits word 13 all few)))
    ∙ ap (λ b. if b then Some (digits_value 10 word) else None) (sym is)
