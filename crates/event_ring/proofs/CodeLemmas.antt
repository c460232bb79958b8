-- own: the exit code that a die tells is a number below 256, and is read as it.
use Rattle.std.proofs.Common.{◌≡◌, ℕ, ◌+◌, ◌<◌, zero, suc, List, [], ◌∷◌, Bool, true, false, ◌&&◌, ◌||◌, codes, decimal, length, find, Result, Ok, refl, sym, ap, ◌∙◌, subst, arith}
use Rattle.std.specs.List.{list_any, range_with_len}
use Rattle.std.specs.Str.Parse.{digits_value, ParsesUnsigned, AllDigits}
use Rattle.std.proofs.lemmas.Bool.{false≢true}
use Rattle.std.proofs.lemmas.Fmt.{decimal_is_IsNumeral}
use Rattle.std.proofs.lemmas.Slice.Eq.{bytes_eq-Decides}
use Rattle.std.proofs.lemmas.Str.Parse.{numerals_by_value, tells_digits, parse_gives}
use Rattle.engine_text.specs.Texts.{same_bytes}
use Rattle.engine_text.specs.declared.pairs.Pair.{Pair}
use Rattle.engine_text.specs.declared.event.EventKind.TheVariants as Kind
use Rattle.engine_text.specs.declared.event.Action.{Action}
use Rattle.api_json.specs.EventRules.{attributes_fit, is_decimal_below, value_fits, values_fit, has_keys}
use Rattle.event_ring.specs.Filter.{value_of}

-- ---- which attribute a die has

both : (a b : Bool) → (a && b) ≡ true → (a ≡ true) × (b ≡ true)
both true b e = (refl, e)
both false b e = absurd (cc)

code_fits : (k v : List ℕ) → same_bytes k (codes "exitCode") ≡ true → value_fits k v ≡ true → is_decimal_below 256 v ≡ true
code_fits k v same fits = rw same at fits

-- A die tells an exit code below 256.
pub die_fits : (ps : List Pair) → attributes_fit Kind.Container Action.Die ps ≡ true
    → is_decimal_below 256 (value_of (find (λ (p : Pair). same_bytes p.key (codes "exitCode")) ps)) ≡ true
die_fits [] e = absurd (cc)
die_fits (p ∷ ps) e =
    let q = both (has_keys (codes "exitCode" ∷ codes "image" ∷ codes "name" ∷ []) (p ∷ ps)) (values_fit (p ∷ ps)) e in
    let key = (both (same_bytes p.key (codes "exitCode")) (has_keys (codes "image" ∷ codes "name" ∷ []) ps) q.0).0 in
    rw key (code_fits p.key p.value key (both (value_fits p.key p.value) (values_fit ps) q.1).0)

-- ---- how it is read

-- a number below n whose decimal is v
pub record Writes (v : List ℕ) (n : ℕ) : Type 0 where
  pub number : ℕ
  pub low : number < n
  pub is : v ≡ decimal number

some_below : (v : List ℕ) (a k : ℕ) → list_any (λ (n : ℕ). same_bytes v (decimal n)) (range_with_len a k) ≡ true → Writes v (a + k)
some_below v a zero e = absurd (false≢true e)
some_below v a (suc k) e = by_first (same_bytes v (decimal a)) refl e (λ f. some_below v (a + 1) k f)
  where
    by_first : (b : Bool) → same_bytes v (decimal a) ≡ b → (b || list_any (λ (n : ℕ). same_bytes v (decimal n)) (range_with_len (a + 1) k)) ≡ true
        → (list_any (λ (n : ℕ). same_bytes v (decimal n)) (range_with_len (a + 1) k) ≡ true → Writes v (a + 1 + k)) → Writes v (a + suc k)
    by_first true is f rest = record { number = a; low = omega arith; is = (bytes_eq-Decides v (decimal a)).0 is }
    by_first false is f rest = let found = rest f in record { number = found.number; low = omega (arith, found.low); is = found.is }

written : (v : List ℕ) → is_decimal_below 256 v ≡ true → Writes v (0 + 256)
unfolding is_decimal_below
written v e = some_below v 0 256 e

-- Such a text is read as its value.
pub code_read : {E : Type 0} (v : List ℕ) (r : Result ℕ E) → is_decimal_below 256 v ≡ true → ParsesUnsigned 8 10 v r → r ≡ Ok (digits_value 10 v)
code_read v r e parses = let one = written v e in read_of one.number one.low one.is
  where
    read_of : (n : ℕ) → n < 0 + 256 → v ≡ decimal n → r ≡ Ok (digits_value 10 v)
    read_of n low is =
        let numeral = decimal_is_IsNumeral n (omega arith) in
        let value : digits_value 10 v ≡ n = ap (digits_value 10) is ∙ numeral.1 in
        parse_gives (numerals_by_value (AllDigits 10) tells_digits) 8 v r parses (subst (λ (t : List ℕ). AllDigits 10 t) (sym is) numeral.0.1)
        (subst (λ (t : List ℕ). 0 < length t) (sym is) numeral.0.0) (omega (arith, value, low))
