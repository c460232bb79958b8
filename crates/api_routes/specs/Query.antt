-- The values of a query's keys (URL Standard, section 5.1: application/x-www-form-urlencoded).
use Rattle.std.specs.Prelude.{ℕ, List, [], ◌∷◌, Option, Some, None, unwrap_or, if◌then◌else◌}
use Rattle.std.specs.Str.Lossy.{utf8_lossy}
use Rattle.form_urlencoded.specs.Form.{decode, raw_pairs}
use Rattle.engine_text.specs.Texts.{same_bytes}

-- the text that a name or a value of a query stands for
abbrev pub text_of : List ℕ → List ℕ
text_of raw = utf8_lossy (decode raw)

-- the value of the first pair with this key
abbrev pub first_value : List ℕ → List (List ℕ × List ℕ) → Option (List ℕ)
first_value key [] = None
first_value key (p ∷ ps) = if same_bytes (text_of p.0) key then Some (text_of p.1) else first_value key ps

-- the value of a key; of a repeated key the first counts, and other keys are passed over
abbrev pub value_of : List ℕ → List ℕ → Option (List ℕ)
value_of key query = first_value key (raw_pairs query)

-- an absent key counts as an empty value
abbrev pub value_or_empty : List ℕ → List ℕ → List ℕ
value_or_empty key query = unwrap_or (value_of key query) []
