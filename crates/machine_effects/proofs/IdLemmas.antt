-- An id is ASCII, so it is UTF-8.
use Rattle.std.proofs.Common.{ℕ, List, [], ◌∷◌, ◌<◌, arith}
use Rattle.std.specs.Prelude.{IsUtf8}
use Rattle.std.specs.List.{AllByRecursion}
use Rattle.std.specs.Str.{IsAscii}
use Rattle.std.proofs.lemmas.Str.{IsUtf8-from_ascii}
use Rattle.std.proofs.lemmas.Str.Ascii.{IsAscii-nil, IsAscii-cons}
use Rattle.hex.specs.Hex.{lower_digits}
use Rattle.hex.proofs.HexLemmas.{IsAscii-encode_with}
use Rattle.engine_text.specs.Id.{id_bytes, id_of}

ascii : (bs : List ℕ) → AllByRecursion (λ b. b < 128) bs → IsAscii bs
ascii [] low = IsAscii-nil
ascii (b ∷ bs) low = IsAscii-cons b bs low.0 (ascii bs low.1)

digits : IsAscii lower_digits
digits = ascii lower_digits
    (omega arith, (omega arith, (omega arith, (omega arith, (omega arith, (omega arith, (omega arith, (omega arith, (omega arith, (omega arith, (omega arith, (omega arith, (omega arith, (omega arith, (omega arith, (omega arith, tt))))))))))))))))

pub id_utf8 : (seed : List ℕ) (n : ℕ) → IsUtf8 (id_of seed n)
unfolding id_of
id_utf8 seed n = IsUtf8-from_ascii (id_of seed n) (IsAscii-encode_with lower_digits (id_bytes seed n) digits)
