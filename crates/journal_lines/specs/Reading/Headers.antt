-- The header that a line's value says (own: format 2).
use Rattle.std.specs.Prelude.{codes, Option, Some}
use Rattle.std.specs.Result.{result_ok}
use Rattle.serde_json.specs.Data.{Data}
use Rattle.hex.specs.Hex.{decode_sized}
use Rattle.journal_lines.specs.Reading.Parts.{and_then, text_at, natural_at}
use Rattle.journal_lines.specs.declared.header.Header.{Header}

-- The moment, and 32 bytes in hexadecimal.
abbrev pub header_in : Data → Option Header
header_in d =
    and_then (natural_at (codes "moment") d) (λ opening.
    and_then (text_at (codes "seed") d) (λ digits.
    and_then (result_ok (decode_sized digits 32)) (λ seed.
    Some (record { seed = seed; opening = opening }))))
