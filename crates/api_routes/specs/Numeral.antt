-- Whole numbers in decimal, without a sign (own: how many digits they may have).
use Rattle.std.specs.Prelude.{ℕ, List, Bool, ◌&&◌, leb, length, if◌then◌else◌, Option, Some, None}
use Rattle.std.specs.Str.{all_ascii_digits}
use Rattle.std.specs.Str.Parse.{digits_value}

-- from one to so many decimal digits
abbrev pub is_numeral : ℕ → List ℕ → Bool
is_numeral most text = leb 1 (length text) && leb (length text) most && all_ascii_digits text

-- the number that they write
abbrev pub number_of : ℕ → List ℕ → Option ℕ
number_of most text = if is_numeral most text then Some (digits_value 10 text) else None
