-- Words, labels, mounts and filters of a line's value (own; RFC 8259, sections 4 and 5).
use Rattle.std.specs.Prelude.{ℕ, List, [], ◌∷◌, codes, Option, Some, option_map}
use Rattle.serde_json.specs.Data.{Data, Items, no_items, item, Members, no_members, member}
use Rattle.serde_json.specs.Find.{get, as_array, as_object}
use Rattle.api_json.specs.Lists.{texts_in, pairs_in}
use Rattle.api_json.specs.Filters.{key_among}
use Rattle.engine_text.specs.declared.filter.FilterKey.{FilterKey}
use Rattle.engine_text.specs.declared.filter.FilterKey.TheVariants as Key
use Rattle.engine_text.specs.declared.filter.FilterRow.{FilterRow}
use Rattle.engine_text.specs.declared.mounts.Mount.{Mount}
use Rattle.engine_text.specs.declared.pairs.Pair.{Pair}
use Rattle.journal_lines.specs.Reading.Parts.{and_then, text_at, flag_at}

-- The texts of a list, and the pairs of an object of texts.
abbrev pub words_at : List ℕ → Data → Option (List (List ℕ))
words_at key d = and_then (get key d) texts_in

abbrev pub pairs_at : List ℕ → Data → Option (List Pair)
pairs_at key d = and_then (get key d) pairs_in

-- ---- mounts

-- A mount.
abbrev pub mount_in : Data → Option Mount
mount_in d =
    and_then (flag_at (codes "ro") d) (λ ro.
    and_then (text_at (codes "target") d) (λ target.
    and_then (text_at (codes "volume") d) (λ volume.
    Some (record { volume = volume; target = target; read_only = ro }))))

-- The mounts of a list.
abbrev pub mounts_of : Items → Option (List Mount)
mounts_of no_items = Some []
mounts_of (item d ds) = and_then (mount_in d) (λ m. option_map (λ rest. m ∷ rest) (mounts_of ds))

abbrev pub mounts_in : Data → Option (List Mount)
mounts_in d = and_then (as_array d) mounts_of

abbrev pub mounts_at : List ℕ → Data → Option (List Mount)
mounts_at key d = and_then (get key d) mounts_in

-- ---- filters

-- Every key of a filter.
abbrev pub filter_keys : List FilterKey
filter_keys =
    Key.Kind ∷ Key.Action ∷ Key.Container ∷ Key.Image ∷ Key.Volume ∷ Key.Id ∷ Key.Name ∷ Key.State ∷ Key.Exited
    ∷ Key.Ancestor ∷ Key.Label ∷ []

-- A row: the key of that name and the texts of a list.
abbrev pub row_of : List ℕ → Data → Option FilterRow
row_of name d =
    and_then (key_among filter_keys name) (λ key.
    and_then (texts_in d) (λ values.
    Some (record { key = key; values = values })))

-- The rows of an object, in the order of its keys.
abbrev pub rows_of : Members → Option (List FilterRow)
rows_of no_members = Some []
rows_of (member name d ms) = and_then (row_of name d) (λ row. option_map (λ rest. row ∷ rest) (rows_of ms))

abbrev pub filter_in : Data → Option (List FilterRow)
filter_in d = and_then (as_object d) rows_of

abbrev pub filter_at : List ℕ → Data → Option (List FilterRow)
filter_at key d = and_then (get key d) filter_in
