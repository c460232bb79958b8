-- The bytes of an id are bytes, and its number stands at their end.
use Rattle.std.proofs.Common.{◌≡◌, ℕ, zero, suc, List, [], ◌∷◌, ◌++◌, ◌<◌, drop, refl, arith}
use Rattle.std.specs.Int.{w64, to_be_bytes, bytes_low_first, bytes_high_first, byte_at}
use Rattle.hex.specs.Hex.{IsBytes}
use Rattle.rand_chacha.specs.ChaCha.{word_at, key_of}
use Rattle.engine_text.specs.Id.{id_bytes, key_bytes, word_bytes}

IsBytes-cons : (x : ℕ) (xs : List ℕ) → x < 256 → IsBytes xs → IsBytes (x ∷ xs)
IsBytes-cons x xs h rest zero = h
IsBytes-cons x xs h rest (suc i) = rest i

IsBytes-append : (xs ys : List ℕ) → IsBytes xs → IsBytes ys → IsBytes (xs ++ ys)
IsBytes-append [] ys a b = b
IsBytes-append (x ∷ xs) ys a b = IsBytes-cons x (xs ++ ys) (a 0) (IsBytes-append xs ys (λ i. a (suc i)) b)

is_byte_at : (i n : ℕ) → byte_at i n < 256
is_byte_at zero n = omega arith
is_byte_at (suc i) n = omega arith

IsBytes-low : (i k n : ℕ) → IsBytes (bytes_low_first i k n)
IsBytes-low i zero n = λ j. omega arith
IsBytes-low i (suc k) n = IsBytes-cons _ _ (is_byte_at i n) (IsBytes-low (suc i) k n)

IsBytes-high : (k n : ℕ) → IsBytes (bytes_high_first k n)
IsBytes-high zero n = λ j. omega arith
IsBytes-high (suc k) n = IsBytes-cons _ _ (is_byte_at k n) (IsBytes-high k n)

pub the_tail : (seed : List ℕ) (n : ℕ) → drop 24 (id_bytes seed n) ≡ to_be_bytes w64 n
unfolding key_bytes
the_tail seed n = refl

IsBytes-word : (seed : List ℕ) (n i : ℕ) → IsBytes (word_bytes seed n i)
IsBytes-word seed n i = IsBytes-low 0 4 (word_at 10 (key_of seed) n i)

IsBytes-key : (seed : List ℕ) (n : ℕ) → IsBytes (key_bytes seed n)
unfolding key_bytes
IsBytes-key seed n =
    let w = IsBytes-word seed n in
    let b = word_bytes seed n in
    let w4 = IsBytes-append (b 4) (b 5) (w 4) (w 5) in
    let w3 = IsBytes-append (b 3) (b 4 ++ b 5) (w 3) w4 in
    let w2 = IsBytes-append (b 2) (b 3 ++ b 4 ++ b 5) (w 2) w3 in
    let w1 = IsBytes-append (b 1) (b 2 ++ b 3 ++ b 4 ++ b 5) (w 1) w2 in
    IsBytes-append (b 0) (b 1 ++ b 2 ++ b 3 ++ b 4 ++ b 5) (w 0) w1

pub IsBytes-id_bytes : (seed : List ℕ) (n : ℕ) → IsBytes (id_bytes seed n)
IsBytes-id_bytes seed n = IsBytes-append (key_bytes seed n) (to_be_bytes w64 n) (IsBytes-key seed n) (IsBytes-high 8 n)
