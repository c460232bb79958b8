-- The data that a text is (RFC 8259, section 2, as `serde_json` reads it).
use Rattle.std.specs.Prelude.{ℕ, ◌≡◌, List, [], ◌∷◌, ◌++◌, Option, Some, None, if◌then◌else◌}
use Rattle.std.specs.Str.{is_utf8}
use Rattle.serde_json.specs.Data.{Data}
use Rattle.serde_json.specs.Read.{read}

-- the data of a text, or none where the bytes are not UTF-8 or no JSON
unfoldable pub data_of : List ℕ → Option Data
data_of text = if is_utf8 text then read text else None

-- the data of a line is that of the text before its line end; bytes without a line end have none
abbrev pub IsDataOfLine : List ℕ → Option Data → Type 0
IsDataOfLine line (Some d) = (text : List ℕ) × (line ≡ text ++ 10 ∷ []) × (data_of text ≡ Some d)
IsDataOfLine line None = (text : List ℕ) → line ≡ text ++ 10 ∷ [] → data_of text ≡ None
