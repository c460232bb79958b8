-- The pieces of bodies as JSON data: texts, numbers, lists and objects (RFC 8259, sections 3 to 7).
use Rattle.std.specs.Prelude.{ℕ, ℤ, List, [], ◌∷◌, map, codes, Option}
use Rattle.serde_json.specs.Data.{Data, string, number, array, unsigned, no_items}
use Rattle.serde_json.specs.View.{items_of}
use Rattle.serde_json.specs.Find.{of_integer}
use Rattle.json_laws.specs.Pairs.{Texts, pairs_data}
use Rattle.engine_text.specs.Moment.{moment_text}
use Rattle.engine_text.specs.declared.pairs.Pair.{Pair}

-- a text
abbrev pub text : List ℕ → Data
text = string

-- a whole number that is not below 0
abbrev pub natural : ℕ → Data
natural n = number (unsigned n)

-- a whole number
abbrev pub integer : ℤ → Data
integer z = number (of_integer z)

-- the text of a moment, or of none
abbrev pub moment : Option ℕ → Data
moment m = text (moment_text m)

-- the list of these things
abbrev pub list_of : {A : Type 0} → (A → Data) → List A → Data
list_of f xs = array (items_of (map f xs))

-- the list without items
abbrev pub empty_list : Data
empty_list = array no_items

-- the keys and values
abbrev pub pairs_of : List Pair → Texts
pairs_of = map (λ p. (p.key, p.value))

-- the object of these pairs, its keys in byte order
abbrev pub pairs_object : List Pair → Data
pairs_object ps = pairs_data (pairs_of ps)

-- the first word, or the empty text
abbrev pub first_word : List (List ℕ) → List ℕ
first_word [] = []
first_word (word ∷ words) = word

-- the name of the one image (own)
abbrev pub image_name : List ℕ
image_name = codes "engine/tools:latest"
