-- Fronts of a number's digits.
use Rattle.std.proofs.Common.{arith, rules, zero, suc, ◌&&◌, ◌≡◌, ◌<◌, ◌≤◌, ◌+◌, ◌/◌, ◌%◌, ◌^◌, ◌⊎◌, inl, inr, ℕ, List, [], ◌∷◌, length, ◌++◌, sym, ap, ◌∙◌, append-nil, length-append, take, get_or, true, false, refl}
use Rattle.std.specs.Prelude.{decimal, cond, Bool, nat_lt, take_while, IsUtf8, Result, Ok, Err}
use Rattle.std.specs.Char.{is_ascii_digit}
use Rattle.std.specs.Result.{OkIff, result_unwrap_or}
use Rattle.std.specs.Str.{all_ascii_digits}
use Rattle.std.specs.Str.Parse.{digits_value, ParsesUnsigned}
use Rattle.std.proofs.lemmas.Bool.{cases_lt}
use Rattle.std.proofs.lemmas.Bool.Decides.{nat_tests}
use Rattle.std.proofs.lemmas.List.Sums.{take_while-cons}
use Rattle.std.proofs.lemmas.List.{nil_from_length, get_or_append_left, get_or-append-add, take_at}
use Rattle.std.proofs.lemmas.Fmt.{decimal_digit, decimal_step, decimal_by_steps, decimal_is_IsNumeral, IsAscii-from_digits}
use Rattle.std.proofs.lemmas.Str.{IsUtf8-from_ascii}
use Rattle.std.proofs.lemmas.Str.Parse.{digit_at, IsNumeralModel, numerals_by_value, tells_all_ascii_digits, parse_digits}
use Rattle.response_reader.specs.Numbers.{HasNoDigit, BeginsWithNumber, IsDigitsEnd, small_or_zero, number_in_front}
use Rattle.response_reader.proofs.ListLemmas.{cut_twice}

-- some of its first digits are the digits of a number that is no greater
abbrev pub FrontsAreNumbers : ℕ → List ℕ → Type 0
FrontsAreNumbers n digits =
    (front back : List ℕ) → digits ≡ front ++ back → 0 < length front → (m : ℕ) × (m ≤ n) × (front ≡ decimal m)

abbrev Steps : ℕ → List ℕ → Type 0
Steps n digits = n < 2 ^ 64 → (digits ≡ decimal n) × FrontsAreNumbers n digits

-- a list of one more is cut before its last, or behind it
one_more : (ds : List ℕ) (d : ℕ) (front back : List ℕ) → ds ++ (d ∷ []) ≡ front ++ back
    → ((rest : List ℕ) × (ds ≡ front ++ rest)) ⊎ (front ≡ ds ++ (d ∷ []))
one_more ds d front back e = go (cases_lt (length ds) (length front))
  where
    last : (r : List ℕ) → d ∷ [] ≡ r ++ back → front ≡ ds ++ r → length ds < length front → front ≡ ds ++ (d ∷ [])
    last r one is less =
        let none : length back ≡ 0 = omega (arith, ap length one, length-append r back, ap length is, length-append ds r, less) in
        is ∙ ap (λ l. ds ++ l) (sym (one ∙ ap (λ l. r ++ l) (nil_from_length back none) ∙ append-nil r))

    go : (length ds < length front) ⊎ (length front ≤ length ds) → ((rest : List ℕ) × (ds ≡ front ++ rest)) ⊎ (front ≡ ds ++ (d ∷ []))
    go (inr le) = let c = cut_twice front back ds (d ∷ []) (sym e) le in inl (c.0, c.1)
    go (inl less) = let c = cut_twice ds (d ∷ []) front back e (omega (arith, less)) in inr (last c.0 c.2 c.1 less)

one_digit : (n : ℕ) → n < 10 → Steps n ((48 + n) ∷ [])
one_digit n small fits = (sym (decimal_digit n small), λ front back e some. go front back some (one_more [] (48 + n) front back e))
  where
    go : (front back : List ℕ) → 0 < length front → ((rest : List ℕ) × ([] ≡ front ++ rest)) ⊎ (front ≡ (48 + n) ∷ []) → (m : ℕ) × (m ≤ n) × (front ≡ decimal m)
    go front back some (inl x) = absurd (omega (arith, some, ap length x.1, length-append front x.0))
    go front back some (inr is) = (n, omega arith, is ∙ sym (decimal_digit n small))

more_digits : (n : ℕ) (ds : List ℕ) → 10 ≤ n → Steps (n / 10) ds → Steps n (ds ++ ((48 + n % 10) ∷ []))
more_digits n ds ten before fits = (whole, λ front back e some. go front some (one_more ds (48 + n % 10) front back e))
  where
    small : n / 10 < 2 ^ 64
    small = omega (arith, fits)

    whole : ds ++ ((48 + n % 10) ∷ []) ≡ decimal n
    whole = ap (λ l. l ++ ((48 + n % 10) ∷ [])) (before small).0 ∙ sym (decimal_step n ten fits)

    go : (front : List ℕ) → 0 < length front → ((rest : List ℕ) × (ds ≡ front ++ rest)) ⊎ (front ≡ ds ++ ((48 + n % 10) ∷ [])) → (m : ℕ) × (m ≤ n) × (front ≡ decimal m)
    go front some (inl x) =
        let m = (before small).1 front x.0 x.1 some in
        (m.0, omega (arith, m.1), m.2)
    go front some (inr is) = (n, omega arith, is ∙ whole)

pub number_fronts : (n : ℕ) → n < 2 ^ 64 → FrontsAreNumbers n (decimal n)
number_fronts n fits = (decimal_by_steps Steps one_digit more_digits n fits fits).1

-- ---- the digits at the front of bytes

digit_in : (n : ℕ) → n < 2 ^ 64 → (i : ℕ) → i < length (decimal n) → is_ascii_digit (get_or (decimal n) i 0) ≡ true
digit_in n fits i lt =
    let numeral = decimal_is_IsNumeral n fits in
    let at = digit_at (decimal n) i numeral.0.1 lt in
    let low : 48 ≤ get_or (decimal n) i 0 = at.0 in
    let high : get_or (decimal n) i 0 ≤ 57 = at.1 in
    grind (arith, nat_tests)

-- what begins with no digit isn't empty, and begins with something else
not_digit : (behind : List ℕ) → HasNoDigit behind → 0 < length behind → is_ascii_digit (get_or behind 0 0) ≡ false
not_digit [] none some = absurd (omega (arith, some))
not_digit (b ∷ bytes) none some = none

clash : (b : ℕ) → is_ascii_digit b ≡ true → is_ascii_digit b ≡ false → ⊥
clash b is lacks = search (rules, is, lacks)

-- they are the digits of the number that the bytes begin with
pub digits_taken : (bytes : List ℕ) (place n : ℕ) → IsDigitsEnd bytes place → n < 2 ^ 64 → BeginsWithNumber bytes n → take place bytes ≡ decimal n
digits_taken bytes place n end fits (behind, e, none) = go (cases_lt place (length (decimal n))) (cases_lt (length (decimal n)) place)
  where
    len : length bytes ≡ length (decimal n) + length behind
    len = omega (arith, ap length e, length-append (decimal n) behind)

    early : place < length (decimal n) → ⊥
    early less =
        let same : get_or bytes place 0 ≡ get_or (decimal n) place 0 = ap (λ l. get_or l place 0) e ∙ get_or_append_left (decimal n) behind 0 place less in
        clash (get_or (decimal n) place 0) (digit_in n fits place less) (ap is_ascii_digit (sym same) ∙ end.behind (omega (arith, len, less)))

    late : length (decimal n) < place → ⊥
    late more =
        let zero : length (decimal n) ≡ length (decimal n) + 0 = omega arith in
        let at : get_or bytes (length (decimal n)) 0 ≡ get_or behind 0 0 = ap (λ l. get_or l (length (decimal n)) 0) e ∙ ap (λ i. get_or (decimal n ++ behind) i 0) zero ∙ get_or-append-add (decimal n) behind 0 0 in
        let some : 0 < length behind = omega (arith, len, more, end.within) in
        clash (get_or behind 0 0) (ap is_ascii_digit (sym at) ∙ end.digits (length (decimal n)) more) (not_digit behind none some)

    go : (place < length (decimal n)) ⊎ (length (decimal n) ≤ place) → (length (decimal n) < place) ⊎ (place ≤ length (decimal n)) → take place bytes ≡ decimal n
    go (inl less) other = absurd (early less)
    go (inr le) (inl more) = absurd (late more)
    go (inr le) (inr ge) = ap (take place) e ∙ take_at (decimal n) behind place (omega (arith, le, ge))

-- they are all the digits that the bytes begin with
pub front_digits : (bytes : List ℕ) (place : ℕ) → IsDigitsEnd bytes place → take place bytes ≡ take_while is_ascii_digit bytes
front_digits [] zero end = refl
front_digits [] (suc p) end = absurd (omega (arith, end.within))
front_digits (b ∷ bytes) zero end = sym (take_while-cons is_ascii_digit b bytes ∙ ap (λ t. cond t (b ∷ take_while is_ascii_digit bytes) []) (end.behind (omega arith)))
front_digits (b ∷ bytes) (suc p) end =
    ap (λ l. b ∷ l) (front_digits bytes p (record {
      within = omega (arith, end.within);
      digits = λ k less. end.digits (suc k) (omega (arith, less));
      behind = λ less. end.behind (omega (arith, less));
    }))
    ∙ sym (take_while-cons is_ascii_digit b bytes ∙ ap (λ t. cond t (b ∷ take_while is_ascii_digit bytes) []) (end.digits 0 (omega arith)))

-- ---- what digits tell

own : IsNumeralModel (λ ds. all_ascii_digits ds ≡ true) (digits_value 10)
own = numerals_by_value _ tells_all_ascii_digits

all_digits : (bytes : List ℕ) → all_ascii_digits (take_while is_ascii_digit bytes) ≡ true
all_digits [] = refl
all_digits (b ∷ bytes) = go (is_ascii_digit b) refl (all_digits bytes)
  where
    taken : (t : Bool) → is_ascii_digit b ≡ t → cond t (b ∷ take_while is_ascii_digit bytes) [] ≡ take_while is_ascii_digit (b ∷ bytes)
    taken t is = sym (take_while-cons is_ascii_digit b bytes ∙ ap (λ t. cond t (b ∷ take_while is_ascii_digit bytes) []) is)

    go : (t : Bool) → is_ascii_digit b ≡ t → all_ascii_digits (take_while is_ascii_digit bytes) ≡ true → all_ascii_digits (take_while is_ascii_digit (b ∷ bytes)) ≡ true
    go true is rest = ap all_ascii_digits (sym (taken true is)) ∙ ap (λ t. t && all_ascii_digits (take_while is_ascii_digit bytes)) is ∙ rest
    go false is rest = ap all_ascii_digits (sym (taken false is))

pub digits_text : (bytes text : List ℕ) → text ≡ take_while is_ascii_digit bytes → IsUtf8 text
digits_text bytes text is = IsUtf8-from_ascii text (IsAscii-from_digits text (own.to text (ap all_ascii_digits is ∙ all_digits bytes)))

kept : (n : ℕ) → n < 2 ^ 64 → small_or_zero n ≡ n
kept n less = ap (λ t. cond t n 0) test
  where
    test : nat_lt n (2 ^ 64) ≡ true
    test = grind (arith, nat_tests)

-- one that isn't read as a number of 64 bits has no digits, or tells 2^64 or more
unread : (text : List ℕ) → ((0 < length text) × (digits_value 10 text < 2 ^ 64) → ⊥) → 0 ≡ small_or_zero (digits_value 10 text)
unread [] none = refl
unread (c ∷ text) none = go (nat_lt (digits_value 10 (c ∷ text)) (2 ^ 64)) refl
  where
    go : (t : Bool) → nat_lt (digits_value 10 (c ∷ text)) (2 ^ 64) ≡ t → 0 ≡ small_or_zero (digits_value 10 (c ∷ text))
    go true less = let small : digits_value 10 (c ∷ text) < 2 ^ 64 = grind (arith, nat_tests) in absurd (none (omega arith, small))
    go false more = sym (ap (λ t. cond t (digits_value 10 (c ∷ text)) 0) more)

-- a text of digits, read as a number of 64 bits
pub read_or_zero : {E : Type 0} (bytes text : List ℕ) (r : Result ℕ E) (n : ℕ) → text ≡ take_while is_ascii_digit bytes → ParsesUnsigned 64 10 text r → n ≡ result_unwrap_or r 0 → n ≡ number_in_front bytes
read_or_zero {E} bytes text r n is parsed got =
    got ∙ by r (parse_digits own 64 text r parsed (ap all_ascii_digits is ∙ all_digits bytes)) ∙ ap (λ l. small_or_zero (digits_value 10 l)) is
  where
    by : (r : Result ℕ E) → OkIff r ((0 < length text) × (digits_value 10 text < 2 ^ 64)) (digits_value 10 text) → result_unwrap_or r 0 ≡ small_or_zero (digits_value 10 text)
    by (Ok x) ok = ok.1 ∙ sym (kept (digits_value 10 text) ok.0.1)
    by (Err e) lacks = unread text lacks
