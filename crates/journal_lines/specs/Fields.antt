-- What stands at the keys of a call's value: thirteen kinds of fields (own).
use Rattle.std.specs.Prelude.{ℕ, ℤ, ◌<◌, ◌^◌, ◌&&◌, nat_le, Bool, true, false, List, [], ◌∷◌, length, Option, is_some, IfSome, IsUtf8, codes, ⊤}
use Rattle.std.specs.Option.{option_map_or}
use Rattle.std.specs.List.{list_all}
use Rattle.serde_json.specs.Data.{Data, null, boolean, object, Members, no_members, member, put}
use Rattle.hex.specs.Hex.{encode_lower, IsBytes}
use Rattle.api_json.specs.Values.{text, natural, integer, list_of, pairs_object}
use Rattle.engine_text.specs.Filter.{filter_word, AreRowsUtf8}
use Rattle.engine_text.specs.Mounts.{AreMountsUtf8}
use Rattle.engine_text.specs.Pairs.{ArePairsUtf8}
use Rattle.engine_text.specs.Words.{AreUtf8}
use Rattle.engine_text.specs.Soundness.{if_given, is_full, is_seconds, are_labels, are_mounts, is_health, is_filter}
use Rattle.engine_text.specs.declared.filter.FilterKey.{FilterKey}
use Rattle.engine_text.specs.declared.filter.FilterRow.{FilterRow}
use Rattle.engine_text.specs.declared.health.HealthSpec.{HealthSpec}
use Rattle.engine_text.specs.declared.mounts.Mount.{Mount}
use Rattle.engine_text.specs.declared.pairs.Pair.{Pair}
use Rattle.journal_lines.specs.declared.format.Format.{Format}
use Rattle.journal_lines.specs.declared.format.Format.TheVariants.{First, Second}

-- What stands at a key: a word of the format's own; such a word, a text, a number or seconds, or none; a flag; words; pairs;
-- mounts; a filter; bytes; a flag and a health check that format 1 leaves out where they say nothing. A test says which of its
-- values a request can give.
pub data Field : Type 0 where
  Word : List ℕ → Field
  WordOrNone : Option (List ℕ) → Field
  TextOrNone : (List ℕ → Bool) → Option (List ℕ) → Field
  NumberOrNone : (ℕ → Bool) → Option ℕ → Field
  SecondsOrNone : Option ℤ → Field
  Flag : Bool → Field
  TextList : (List (List ℕ) → Bool) → List (List ℕ) → Field
  LabelPairs : List Pair → Field
  MountList : List Mount → Field
  FilterRows : (FilterKey → Bool) → List FilterRow → Field
  HexBytes : List ℕ → Field
  FlagIfSet : Bool → Field
  CheckIfGiven : Option HealthSpec → Field

-- The members with these rows put in, one after another, each a key with its list of texts.
abbrev pub put_rows : List FilterRow → Members → Members
put_rows [] ms = ms
put_rows (r ∷ rs) ms = put_rows rs (put (filter_word r.key) (list_of text r.values) ms)

-- A filter is an object of lists of texts, its keys in byte order.
abbrev pub filter_value : List FilterRow → Data
filter_value rows = object (put_rows rows no_members)

-- A mount.
abbrev pub mount_entry : Mount → Data
mount_entry m = object (
    member (codes "ro") (boolean m.read_only) (
    member (codes "target") (text m.target) (
    member (codes "volume") (text m.volume) no_members)))

-- A health check, its times in milliseconds.
abbrev pub check_entry : HealthSpec → Data
check_entry h = object (
    member (codes "interval") (natural h.interval) (
    member (codes "retries") (natural h.retries) (
    member (codes "start") (natural h.start_period) (
    member (codes "timeout") (natural h.timeout) (
    member (codes "words") (list_of text h.words) no_members)))))

-- A field as JSON: none is null, bytes are hexadecimal.
abbrev pub field_value : Field → Data
field_value (Word w) = text w
field_value (WordOrNone w) = option_map_or text w null
field_value (TextOrNone test t) = option_map_or text t null
field_value (NumberOrNone test n) = option_map_or natural n null
field_value (SecondsOrNone s) = option_map_or integer s null
field_value (Flag b) = boolean b
field_value (TextList test ws) = list_of text ws
field_value (LabelPairs ps) = pairs_object ps
field_value (MountList ms) = list_of mount_entry ms
field_value (FilterRows is_key rows) = filter_value rows
field_value (HexBytes bs) = text (encode_lower bs)
field_value (FlagIfSet b) = boolean b
field_value (CheckIfGiven h) = option_map_or check_entry h null

-- Format 1 leaves out what says nothing, and format 2 leaves out nothing.
abbrev pub stands_in : Format → Bool → Bool
stands_in First says = says
stands_in Second says = true

-- Whether a field stands there.
abbrev pub is_written : Format → Field → Bool
is_written format (FlagIfSet b) = stands_in format b
is_written format (CheckIfGiven h) = stands_in format (is_some h)
is_written format f = true

-- Whether a request can give it.
abbrev pub is_field_sound : Field → Bool
is_field_sound (Word w) = true
is_field_sound (WordOrNone w) = true
is_field_sound (TextOrNone test t) = if_given test t
is_field_sound (NumberOrNone test n) = if_given test n
is_field_sound (SecondsOrNone s) = if_given is_seconds s
is_field_sound (Flag b) = true
is_field_sound (TextList test ws) = test ws
is_field_sound (LabelPairs ps) = are_labels ps
is_field_sound (MountList ms) = are_mounts ms
is_field_sound (FilterRows is_key rows) = is_filter is_key rows
is_field_sound (HexBytes bs) = is_full bs && nat_le (length bs) 32768
is_field_sound (FlagIfSet b) = true
is_field_sound (CheckIfGiven h) = if_given is_health h

-- A number of 64 bits.
abbrev pub IsWord : ℕ → Type 0
IsWord n = n < 2 ^ 64

-- A health check's numbers have 64 bits, and its words are UTF-8.
abbrev pub CheckFitsType : HealthSpec → Type 0
CheckFitsType h = IsWord h.interval × IsWord h.retries × IsWord h.start_period × IsWord h.timeout × AreUtf8 h.words

-- What its type gives: texts of UTF-8, numbers of 64 bits, bytes.
abbrev pub FieldFitsType : Field → Type 0
FieldFitsType (Word w) = ⊤
FieldFitsType (WordOrNone w) = ⊤
FieldFitsType (TextOrNone test t) = IfSome t IsUtf8
FieldFitsType (NumberOrNone test n) = IfSome n IsWord
FieldFitsType (SecondsOrNone s) = ⊤
FieldFitsType (Flag b) = ⊤
FieldFitsType (TextList test ws) = AreUtf8 ws
FieldFitsType (LabelPairs ps) = ArePairsUtf8 ps
FieldFitsType (MountList ms) = AreMountsUtf8 ms
FieldFitsType (FilterRows is_key rows) = AreRowsUtf8 rows
FieldFitsType (HexBytes bs) = IsBytes bs
FieldFitsType (FlagIfSet b) = ⊤
FieldFitsType (CheckIfGiven h) = IfSome h CheckFitsType

-- ---- fields behind their keys

-- A field behind its key.
abbrev pub KeyedField : Type 0
KeyedField = List ℕ × Field

-- A field before these members, if it stands there.
abbrev pub before_members : Bool → KeyedField → Members → Members
before_members true f ms = member f.0 (field_value f.1) ms
before_members false f ms = ms

-- The members of these fields.
abbrev pub field_members : Format → List KeyedField → Members
field_members format [] = no_members
field_members format (f ∷ fs) = before_members (is_written format f.1) f (field_members format fs)

-- Members with a field put in, or as they are.
abbrev pub put_written : Bool → KeyedField → Members → Members
put_written true f ms = put f.0 (field_value f.1) ms
put_written false f ms = ms

-- Members with a field put in, if it stands there.
abbrev pub put_field : Format → KeyedField → Members → Members
put_field format f ms = put_written (is_written format f.1) f ms

-- Members with these fields put in, one after another.
abbrev pub put_fields : Format → List KeyedField → Members → Members
put_fields format [] ms = ms
put_fields format (f ∷ fs) ms = put_fields format fs (put_field format f ms)

-- The object of these fields.
abbrev pub fields_value : Format → List KeyedField → Data
fields_value format fields = object (field_members format fields)

-- A request can give each of them.
abbrev pub are_fields_sound : List KeyedField → Bool
are_fields_sound fields = list_all (λ f. is_field_sound f.1) fields

-- Each is what its type holds.
abbrev pub FieldsFitTypes : List KeyedField → Type 0
FieldsFitTypes [] = ⊤
FieldsFitTypes (f ∷ fs) = FieldFitsType f.1 × FieldsFitTypes fs
