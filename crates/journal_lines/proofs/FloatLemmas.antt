-- The value of an entry has no float.
use Rattle.std.specs.Option.{option_map_or}
use Rattle.std.proofs.Common.{◌≡◌, ℕ, ℤ, pos, negsuc, List, [], ◌∷◌, Bool, true, false, Option, Some, None, refl}
use Rattle.serde_json.specs.Data.{Data, Members, no_members, null}
use Rattle.serde_json.specs.Written.{has_float, members_have_float}
use Rattle.json_laws.proofs.NoFloat.{no_float-put, no_float-pairs_data}
use Rattle.api_json.specs.Values.{list_of, pairs_of, text, natural, integer}
use Rattle.engine_text.specs.Filter.{filter_word}
use Rattle.journal_lines.specs.CallFields.{fields_of}
use Rattle.journal_lines.specs.Fields.{Field, Word, TextOrNone, NumberOrNone, SecondsOrNone, Flag, TextList, LabelPairs, MountList, FilterRows, HexBytes, WordOrNone, FlagIfSet, CheckIfGiven, check_entry, is_written, before_members, put_rows, filter_value, mount_entry, field_value, KeyedField, field_members}
use Rattle.journal_lines.specs.JournalLines.{call_value, reply_value, entry_value}
use Rattle.journal_lines.specs.declared.format.Format.{Format}
use Rattle.engine_text.specs.declared.call.Call.{Call}
use Rattle.engine_text.specs.declared.entry.Entry.{Entry}
use Rattle.engine_text.specs.declared.filter.FilterRow.{FilterRow}
use Rattle.engine_text.specs.declared.health.HealthSpec.{HealthSpec}
use Rattle.engine_text.specs.declared.reply.Reply.{Reply}
use Rattle.engine_text.specs.declared.reply.Reply.TheVariants.{Answer, Begun, LogStream, EventStream, JournalStream, Fed, Dropped}

-- of things that have none, the list has none
list : {A : Type 0} (f : A → Data) (xs : List A) → ((x : A) → has_float (f x) ≡ false) → has_float (list_of f xs) ≡ false
list f [] none = refl
list f (x ∷ xs) none = rw (none x) (list f xs none)

words : (ws : List (List ℕ)) → has_float (list_of text ws) ≡ false
words ws = list text ws (λ w. refl)

whole : (z : ℤ) → has_float (integer z) ≡ false
whole (pos n) = refl
whole (negsuc n) = refl

given : {A : Type 0} (f : A → Data) (o : Option A) → ((x : A) → has_float (f x) ≡ false) → has_float (option_map_or f o null) ≡ false
given f None none = refl
given f (Some x) none = none x

rows_put : (rs : List FilterRow) (ms : Members) → members_have_float ms ≡ false → members_have_float (put_rows rs ms) ≡ false
rows_put [] ms h = h
rows_put (r ∷ rs) ms h = rows_put rs _ (no_float-put (filter_word r.key) (list_of text r.values) ms (words r.values) h)

check : (h : HealthSpec) → has_float (check_entry h) ≡ false
check h = rw (words h.words) refl

rows : (rs : List FilterRow) → has_float (filter_value rs) ≡ false
rows rs = rows_put rs no_members refl

-- no field has one, and so no call's value has
field : (f : Field) → has_float (field_value f) ≡ false
field (Word w) = refl
field (TextOrNone test t) = given text t (λ w. refl)
field (NumberOrNone test n) = given natural n (λ m. refl)
field (SecondsOrNone s) = given integer s whole
field (Flag b) = refl
field (TextList test ws) = words ws
field (LabelPairs ps) = no_float-pairs_data (pairs_of ps)
field (MountList ms) = list mount_entry ms (λ m. refl)
field (FilterRows is_key rs) = rows rs
field (HexBytes bs) = refl
field (WordOrNone w) = given text w (λ w. refl)
field (FlagIfSet b) = refl
field (CheckIfGiven h) = given check_entry h check

before : (stands : Bool) (f : KeyedField) (ms : Members) → members_have_float ms ≡ false → members_have_float (before_members stands f ms) ≡ false
before false f ms h = h
before true f ms h = rw (field f.1, h) refl

fields : (format : Format) (fs : List KeyedField) → members_have_float (field_members format fs) ≡ false
fields format [] = refl
fields format (f ∷ fs) = before (is_written format f.1) f (field_members format fs) (fields format fs)

call : (format : Format) (c : Call) → has_float (call_value format c) ≡ false
call format c = fields format (fields_of c)

reply : (c : Call) (r : Reply) → has_float (reply_value c r) ≡ false
reply c (Answer status body) = refl
reply c (Begun ticket) = refl
reply c (LogStream spec) = refl
reply c (EventStream first until filter) = refl
reply c (JournalStream count) = refl
reply c (Fed taken) = refl
reply c Dropped = refl

pub no_float-entry : (format : Format) (e : Entry) → has_float (entry_value format e) ≡ false
no_float-entry format e = rw (call format e.call, reply e.call e.reply) refl
