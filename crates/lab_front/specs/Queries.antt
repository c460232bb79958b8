-- The values of a query, and what they say of the one image (URL Standard, section 5.1: application/x-www-form-urlencoded; own: keys as they
-- stand, and the texts in which filters name the image).
use Rattle.std.specs.Prelude.{ℕ, List, [], ◌∷◌, ◌+◌, ◌-◌, ◌*◌, Bool, true, ◌==◌, ◌&&◌, ◌||◌, nat_le, if◌then◌else◌, Option, Some, None, option_map, option_and_then, codes}
use Rattle.std.specs.List.{before_first, after_first, slice_split}
use Rattle.std.specs.Str.{bytes_eq}

-- ---- the values of a query

-- what stands behind the first question mark
abbrev pub query_of : List ℕ → List ℕ
query_of target = after_first (λ b. b == 63) target

-- the value of a pair, where it has this name
abbrev pub value_in : List ℕ → List ℕ → Option (List ℕ)
value_in name pair =
    if bytes_eq (before_first (λ b. b == 61) pair) name then Some (after_first (λ b. b == 61) pair) else None

-- the first value of pairs
abbrev pub or_next : Option (List ℕ) → Option (List ℕ) → Option (List ℕ)
or_next None next = next
or_next (Some value) next = Some value

abbrev pub first_value : List ℕ → List (List ℕ) → Option (List ℕ)
first_value name [] = None
first_value name (pair ∷ pairs) = or_next (value_in name pair) (first_value name pairs)

-- the value of a key, as it was sent; of a repeated key the first counts
abbrev pub value_of : List ℕ → List ℕ → Option (List ℕ)
value_of name query = first_value name (slice_split (λ b. b == 38) query)

-- a plus sign is a space
abbrev pub plain : ℕ → ℕ
plain b = if b == 43 then 32 else b

-- a byte from low to high
abbrev pub is_between : ℕ → ℕ → ℕ → Bool
is_between low high b = nat_le low b && nat_le b high

-- the value of a hexadecimal digit
abbrev pub hex_value : ℕ → Option ℕ
hex_value b =
    if is_between 48 57 b then Some (b - 48)
    else if is_between 65 70 b then Some (b - 55)
    else if is_between 97 102 b then Some (b - 87)
    else None

-- the byte that two hexadecimal digits write
abbrev pub hex_byte : ℕ → ℕ → Option ℕ
hex_byte high low = option_and_then (λ h. option_map (λ l. 16 * h + l) (hex_value low)) (hex_value high)

-- the byte of an escape: a percent sign and two digits
abbrev pub escaped : ℕ → ℕ → ℕ → Option ℕ
escaped b high low = if b == 37 then hex_byte high low else None

abbrev pub byte_or : Option ℕ → List ℕ → List ℕ → List ℕ
byte_or None behind others = others
byte_or (Some b) behind others = b ∷ behind

-- the text that a value stands for
unfoldable pub decoded : List ℕ → List ℕ
decoded [] = []
decoded (b ∷ []) = plain b ∷ []
decoded (b ∷ c ∷ []) = plain b ∷ plain c ∷ []
decoded (b ∷ high ∷ low ∷ rest) =
    byte_or (escaped b high low) (decoded rest) (plain b ∷ decoded (high ∷ low ∷ rest))

-- a value stands for the text
abbrev pub spells : List ℕ → List ℕ → Bool
spells value text = bytes_eq (decoded value) text

-- ---- what they say of the one image

-- filters that leave it in the list: none; or its name by itself, or with its tag, in a list or as a key that is true
abbrev pub filters_none : List ℕ → Bool
filters_none value = spells value [] || spells value (codes "{}")

abbrev pub filters_name : List ℕ → Bool
filters_name value =
    spells value (codes "{\"reference\":[\"engine/tools\"]}") || spells value (codes "{\"reference\": [\"engine/tools\"]}")
    || spells value (codes "{\"reference\":{\"engine/tools\":true}}")

abbrev pub filters_tagged : List ℕ → Bool
filters_tagged value =
    spells value (codes "{\"reference\":[\"engine/tools:latest\"]}") || spells value (codes "{\"reference\": [\"engine/tools:latest\"]}")
    || spells value (codes "{\"reference\":{\"engine/tools:latest\":true}}")

abbrev pub is_listed : Option (List ℕ) → Bool
is_listed None = true
is_listed (Some value) = filters_none value || filters_name value || filters_tagged value

-- no tag, an empty one, or its own
abbrev pub is_latest : Option (List ℕ) → Bool
is_latest None = true
is_latest (Some value) = spells value [] || spells value (codes "latest")

-- its name, by itself or with its tag, or with the registry's
abbrev pub is_tools : List ℕ → Bool
is_tools value =
    spells value (codes "engine/tools") || spells value (codes "engine/tools:latest")
    || spells value (codes "docker.io/engine/tools")
