-- Numbers at the front of bytes (own: for the code that finds them).
use Rattle.std.specs.Prelude.{ℕ, ◌≡◌, ◌≢◌, ◌<◌, ◌≤◌, ◌^◌, nat_lt, true, false, if◌then◌else◌, List, [], ◌∷◌, ◌++◌, length, slice_index, take_while, decimal, ⊤}
use Rattle.std.specs.Char.{is_ascii_digit}
use Rattle.std.specs.Str.Parse.{digits_value}

-- they are the same up to this place, where they differ
pub record FirstDiffer (one other : List ℕ) (place : ℕ) : Type 0 where
  pub in_one : place < length one
  pub in_other : place < length other
  pub same : (k : ℕ) → k < place → slice_index one k ≡ slice_index other k
  pub differ : slice_index one place ≢ slice_index other place

-- the bytes don't begin with a digit
abbrev pub HasNoDigit : List ℕ → Type 0
HasNoDigit [] = ⊤
HasNoDigit (b ∷ bytes) = is_ascii_digit b ≡ false

-- the bytes begin with the digits of the number, and with no digit more
abbrev pub BeginsWithNumber : List ℕ → ℕ → Type 0
BeginsWithNumber bytes n = (behind : List ℕ) × (bytes ≡ decimal n ++ behind) × HasNoDigit behind

-- a number below 2^64, and 0 in place of any other
abbrev pub small_or_zero : ℕ → ℕ
small_or_zero n = if nat_lt n (2 ^ 64) then n else 0

-- what the digits tell that the bytes begin with, as 007 tells 7, and no digit tells 0; and 0 if that is 2^64 or more
abbrev pub number_in_front : List ℕ → ℕ
number_in_front bytes = small_or_zero (digits_value 10 (take_while is_ascii_digit bytes))

-- before this place stand digits alone, and there none
pub record IsDigitsEnd (bytes : List ℕ) (place : ℕ) : Type 0 where
  pub within : place ≤ length bytes
  pub digits : (k : ℕ) → k < place → is_ascii_digit (slice_index bytes k) ≡ true
  pub behind : place < length bytes → is_ascii_digit (slice_index bytes place) ≡ false
