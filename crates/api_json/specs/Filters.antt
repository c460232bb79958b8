-- Filters in a query (Docker Engine API v1.43, ContainerList, VolumeList, SystemEvents; own: the order of the rows, and which keys of the older form count).
use Rattle.std.specs.Prelude.{ℕ, List, [], ◌∷◌, if◌then◌else◌, Option, Some, None, Result, Ok, option_map, option_and_then, find}
use Rattle.serde_json.specs.Data.{Data, Items, Members, no_members, member}
use Rattle.serde_json.specs.Find.{as_array, as_object, as_bool}
use Rattle.json_laws.specs.Pairs.{words_of}
use Rattle.json_laws.specs.Text.{data_of}
use Rattle.engine_text.specs.Filter.{filter_word}
use Rattle.engine_text.specs.Texts.{same_bytes}
use Rattle.engine_text.specs.declared.filter.FilterKey.{FilterKey}
use Rattle.engine_text.specs.declared.filter.FilterRow.{FilterRow}
use Rattle.api_json.specs.Fault.{or_fault}
use Rattle.api_json.specs.declared.fault.BodyFault.{BodyFault}
use Rattle.api_json.specs.declared.fault.BodyFault.TheVariants.{InvalidFilter}

-- the key among these that has the name
abbrev pub key_among : List FilterKey → List ℕ → Option FilterKey
key_among keys name = find (λ key. same_bytes (filter_word key) name) keys

-- the keys whose value is true, in their order, where every value is a truth value
abbrev pub true_keys : Members → Option (List (List ℕ))
true_keys no_members = Some []
true_keys (member k v ms) =
    option_and_then (λ on. option_map (λ rest. if on then k ∷ rest else rest) (true_keys ms)) (as_bool v)

-- the values are a list of texts, or the true keys of an object
abbrev pub texts_or_keys : Option Items → Option Members → Option (List (List ℕ))
texts_or_keys (Some ds) ms = words_of ds
texts_or_keys None ms = option_and_then true_keys ms

-- the values of a key, of either form
abbrev pub values_in : Data → Option (List (List ℕ))
values_in d = texts_or_keys (as_array d) (as_object d)

-- one row: a key of this call and its values
abbrev pub row_of : List FilterKey → List ℕ → Data → Option FilterRow
row_of keys name v =
    option_and_then (λ key. option_map (λ values. record { key = key; values = values }) (values_in v)) (key_among keys name)

-- the rows of an object, in the order of its keys
abbrev pub rows_in : List FilterKey → Members → Option (List FilterRow)
rows_in keys no_members = Some []
rows_in keys (member name v ms) =
    option_and_then (λ row. option_map (λ rows. row ∷ rows) (rows_in keys ms)) (row_of keys name v)

-- the filter of a text: the empty text has no rows, and another is an object of rows
unfoldable pub filter_of : List FilterKey → List ℕ → Result (List FilterRow) BodyFault
filter_of keys [] = Ok []
filter_of keys (c ∷ cs) =
    or_fault InvalidFilter (option_and_then (rows_in keys) (option_and_then as_object (data_of (c ∷ cs))))
