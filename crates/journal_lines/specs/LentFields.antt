-- A call's fields as the code lends them, told as fields (own).
use Rattle.std.specs.Prelude.{ℕ, Bool, true, List, map, nat_le, Some, option_copied}
use denote.Ref.{Bor}
use Rattle.engine_text.specs.Name.{is_name, is_volume_name}
use Rattle.engine_text.specs.Soundness.{is_full, is_time, is_count, is_limit, is_list_key, is_event_key, is_volume_key}
use Rattle.engine_text.specs.declared.filter.FilterKey.{FilterKey}
use Rattle.journal_lines.specs.Fields as told
use Rattle.journal_lines.specs.Fields.{KeyedField}
use Rattle.journal_lines.specs.CallFields.{signal_field}
use Rattle.journal_lines.specs.declared.fields.kinds.Field.{Field}
use Rattle.journal_lines.specs.declared.fields.kinds.TextTest.{TextTest}
use Rattle.journal_lines.specs.declared.fields.kinds.NumberTest.{NumberTest}
use Rattle.journal_lines.specs.declared.fields.kinds.TextListTest.{TextListTest}
use Rattle.journal_lines.specs.declared.fields.kinds.FilterTest.{FilterTest}

-- The tests of texts, of numbers, of lists of texts, and of the keys of a filter.
abbrev pub text_test : TextTest → List ℕ → Bool
text_test TextTest.Any = λ t. true
text_test TextTest.Full = is_full
text_test TextTest.Name = is_name
text_test TextTest.VolumeName = is_volume_name

abbrev pub number_test : NumberTest → ℕ → Bool
number_test NumberTest.Any = λ n. true
number_test NumberTest.Run = nat_le 1
number_test NumberTest.Retries = λ n. nat_le n 2147483647
number_test NumberTest.Moment = is_time
number_test NumberTest.Count = is_count
number_test NumberTest.Limit = is_limit

abbrev pub text_list_test : TextListTest → List (List ℕ) → Bool
text_list_test TextListTest.Any = λ ws. true
text_list_test TextListTest.Full = is_full

abbrev pub key_test : FilterTest → FilterKey → Bool
key_test FilterTest.Containers = is_list_key
key_test FilterTest.Events = is_event_key
key_test FilterTest.Volumes = is_volume_key

-- A field that is lent.
abbrev pub told_field : Field → told.Field
told_field (Field.Word word) = told.Word word.now
told_field (Field.Text test t) = told.TextOrNone (text_test test) (Some t.now)
told_field (Field.TextOrNone test t) = told.TextOrNone (text_test test) t.now
told_field (Field.NumberOrNone test n) = told.NumberOrNone (number_test test) n
told_field (Field.CountOrNone test n) = told.NumberOrNone (number_test test) n
told_field (Field.SignalOrNone signal) = signal_field signal
told_field (Field.SecondsOrNone s) = told.SecondsOrNone s
told_field (Field.Flag b) = told.Flag b
told_field (Field.TextList test ws) = told.TextList (text_list_test test) ws.now
told_field (Field.LabelPairs ps) = told.LabelPairs ps.now
told_field (Field.MountList ms) = told.MountList ms.now
told_field (Field.FilterRows test rows) = told.FilterRows (key_test test) rows.now
told_field (Field.HexBytes bs) = told.HexBytes bs.now
told_field (Field.WordOrNone word) = told.WordOrNone (option_copied word)
told_field (Field.FlagIfSet b) = told.FlagIfSet b
told_field (Field.CheckIfGiven check) = told.CheckIfGiven check.now

-- Fields behind their keys.
abbrev pub told_list : List (Bor (List ℕ) × Field) → List KeyedField
told_list = map (λ f. (f.0.now, told_field f.1))
