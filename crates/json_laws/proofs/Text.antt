-- The data of a text.
use Rattle.std.proofs.Common.{◌≡◌, ℕ, List, Bool, true, false, Some, None, IsUtf8, if◌then◌else◌, refl, ap, ◌∙◌}
use Rattle.std.specs.Str.{is_utf8}
use Rattle.std.proofs.lemmas.Str.{IsUtf8-from_is_utf8, is_utf8-from_IsUtf8}
use Rattle.serde_json.specs.Data.{Data}
use Rattle.serde_json.specs.Read.{read}
use Rattle.serde_json.specs.Written.{compact_text}
use Rattle.json_laws.specs.Sound.{IsCarried}
use Rattle.json_laws.specs.Text.{data_of}
use Rattle.json_laws.proofs.RoundTrip.{read-compact_text}
use Rattle.json_laws.proofs.Utf8.{IsUtf8-compact_text}

-- of bytes that are UTF-8 it is what is read
pub data_of-utf8 : (text : List ℕ) → IsUtf8 text → data_of text ≡ read text
unfolding data_of
data_of-utf8 text u = ap (λ (b : Bool). if b then read text else None) (is_utf8-from_IsUtf8 text u)

-- and there is none where nothing is read of them
pub data_of-none : (text : List ℕ) → (IsUtf8 text → read text ≡ None) → data_of text ≡ None
unfolding data_of
data_of-none text h = go (is_utf8 text) refl
  where
    go : (b : Bool) → is_utf8 text ≡ b → (if b then read text else None) ≡ None
    go true e = h (IsUtf8-from_is_utf8 text e)
    go false e = refl

-- the compact text of carried data has that data
pub data_of-compact_text : (d : Data) → IsCarried d → data_of (compact_text d) ≡ Some d
data_of-compact_text d h = data_of-utf8 (compact_text d) (IsUtf8-compact_text d h.0 h.1) ∙ read-compact_text d h.0 h.2
