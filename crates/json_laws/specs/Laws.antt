-- What is proved of compact texts (RFC 8259).
use Rattle.std.specs.Prelude.{◌≡◌, ◌≤◌, ℕ, ℤ, List, false, Some, IsUtf8, FitsSigned}
use Rattle.std.specs.Int.{w64}
use Rattle.serde_json.specs.Data.{Data, number, no_members, depth}
use Rattle.serde_json.specs.Find.{of_integer}
use Rattle.serde_json.specs.Read.{read, max_depth}
use Rattle.serde_json.specs.Written.{has_float, compact_text}
use Rattle.json_laws.specs.Plain.{IsPlain}
use Rattle.json_laws.specs.Text.{data_of}
use Rattle.json_laws.specs.Utf8.{HasUtf8}
use Rattle.json_laws.specs.Sound.{IsSound, IsCarried}
use Rattle.json_laws.specs.Pairs.{Texts, DoKeysRise, put_pairs, pairs_members, texts_of, words_items, words_of}

-- the compact text of plain data reads as that data
abbrev pub ReadsBack : Type 0
ReadsBack = (d : Data) → IsPlain d → depth d ≤ max_depth → read (compact_text d) ≡ Some d

-- so the data of the compact text of carried data is that data
abbrev pub CarriedReadsBack : Type 0
CarriedReadsBack = (d : Data) → IsCarried d → data_of (compact_text d) ≡ Some d

-- so two plain data with one text are the same
abbrev pub TextsDiffer : Type 0
TextsDiffer = (d e : Data) → IsPlain d → IsPlain e → depth d ≤ max_depth → depth e ≤ max_depth
    → compact_text d ≡ compact_text e → d ≡ e

-- plain data has no float, so `to_vec` and `to_string` write exactly its compact text
abbrev pub PlainHasNoFloat : Type 0
PlainHasNoFloat = (d : Data) → IsPlain d → has_float d ≡ false

-- the compact text is UTF-8
abbrev pub TextIsUtf8 : Type 0
TextIsUtf8 = (d : Data) → IsPlain d → HasUtf8 d → IsUtf8 (compact_text d)

-- pairs whose keys rise are members as they stand, and are found again
abbrev pub PairsStand : Type 0
PairsStand = (ps : Texts) → DoKeysRise ps → (put_pairs ps no_members ≡ pairs_members ps) × (texts_of (put_pairs ps no_members) ≡ Some ps)

-- and so are lists of texts
abbrev pub WordsStand : Type 0
WordsStand = (ws : List (List ℕ)) → words_of (words_items ws) ≡ Some ws

-- a whole number of 64 bits, below 0 too, is carried
abbrev pub IntegersAreSound : Type 0
IntegersAreSound = (n : ℕ) (z : ℤ) → FitsSigned w64 z → IsSound n (number (of_integer z))
