-- Numbers in hexadecimal.
use Rattle.std.proofs.Common.{arith, ◌≡◌, ◌<◌, ◌≤◌, ◌/◌, ◌%◌, ℕ, [], ◌∷◌, ◌++◌, length, map, ap, ◌∙◌}
use Rattle.std.specs.Int.Digits.{digits_of}
use Rattle.std.proofs.lemmas.List.{map-append, length-map}
use Rattle.std.proofs.lemmas.Int.Digits.{digits_of_step, length-digits_of-le}
use Rattle.http_edge.specs.Chunks.{hex_digit, hex_text}

-- the last digit stands behind the others
pub hex_step : (n : ℕ) → 0 < n → hex_text n ≡ hex_text (n / 16) ++ (hex_digit (n % 16) ∷ [])
hex_step n some =
    ap (map hex_digit) (digits_of_step 16 n (omega arith) some) ∙ map-append hex_digit (digits_of 16 (n / 16)) (n % 16 ∷ [])

-- at most sixteen digits write a u64
pub hex_short : (n : ℕ) → n < 18446744073709551616 → length (hex_text n) ≤ 16
hex_short n small = omega (arith, length-map (digits_of 16 n) hex_digit, length-digits_of-le 16 16 n (omega arith) small)
