-- Words and pairs in bodies (Docker Engine API v1.43, definitions ContainerConfig and Volume).
use Rattle.std.specs.Prelude.{ℕ, List, [], ◌∷◌, map, Option, Some, None, Result, Ok, option_map, option_and_then}
use Rattle.serde_json.specs.Data.{Data, Items, Members}
use Rattle.serde_json.specs.Find.{as_str, as_array, as_object}
use Rattle.json_laws.specs.Pairs.{Texts, texts_of, words_of}
use Rattle.engine_text.specs.declared.pairs.Pair.{Pair}
use Rattle.api_json.specs.Fault.{or_fault}
use Rattle.api_json.specs.Fields.{field}
use Rattle.api_json.specs.declared.fault.BodyKey.{BodyKey}
use Rattle.api_json.specs.declared.fault.BodyKey.TheVariants as Key
use Rattle.api_json.specs.declared.fault.BodyFault.{BodyFault}
use Rattle.api_json.specs.declared.fault.BodyFault.TheVariants.{BadField}

-- a text is one word, and a list of texts is its words
abbrev pub word_or_words : Option (List ℕ) → Option Items → Option (List (List ℕ))
word_or_words (Some word) items = Some (word ∷ [])
word_or_words None items = option_and_then words_of items

-- the words of a value of either form
abbrev pub words_in : Data → Option (List (List ℕ))
words_in d = word_or_words (as_str d) (as_array d)

-- what is read of a field, and this where it is absent
abbrev pub read_or_else : {A : Type 0} → A → (Data → Option A) → BodyKey → Option Data → Result A BodyFault
read_or_else absent kind key None = Ok absent
read_or_else absent kind key (Some v) = or_fault (BadField key) (kind v)

-- the words of a field, none where it is absent
abbrev pub words_field : BodyKey → Data → Result (List (List ℕ)) BodyFault
words_field key d = read_or_else [] words_in key (field key d)

-- the texts of a list of texts
abbrev pub texts_in : Data → Option (List (List ℕ))
texts_in d = option_and_then words_of (as_array d)

-- the texts of a field that is a list of texts, none where it is absent
abbrev pub texts_field : BodyKey → Data → Result (List (List ℕ)) BodyFault
texts_field key d = read_or_else [] texts_in key (field key d)

-- keys and values as pairs
abbrev pub pairs_from : Texts → List Pair
pairs_from = map (λ p. record { key = p.0; value = p.1 })

-- the pairs of members that are texts, in the order of their keys
abbrev pub pairs_of_members : Members → Option (List Pair)
pairs_of_members ms = option_map pairs_from (texts_of ms)

-- the pairs of an object of texts
abbrev pub pairs_in : Data → Option (List Pair)
pairs_in d = option_and_then pairs_of_members (as_object d)

-- the labels, none where they are absent
abbrev pub labels_of : Data → Result (List Pair) BodyFault
labels_of d = read_or_else [] pairs_in Key.Labels (field Key.Labels d)
