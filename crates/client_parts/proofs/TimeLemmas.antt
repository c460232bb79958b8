-- Digits alone.
use Rattle.std.proofs.Common.{◌≡◌, ℕ, List, [], ◌∷◌, refl, ap}
use Rattle.std.specs.Prelude.{◌&&◌}
use Rattle.std.specs.Char.{is_ascii_digit}
use Rattle.std.specs.List.{list_all}
use Rattle.std.specs.Str.{all_ascii_digits}

pub digits_alone : (bytes : List ℕ) → list_all is_ascii_digit bytes ≡ all_ascii_digits bytes
digits_alone [] = refl
digits_alone (b ∷ bytes) = ap (λ rest. is_ascii_digit b && rest) (digits_alone bytes)
