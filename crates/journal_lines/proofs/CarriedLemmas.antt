-- The value of a call that a request can make is carried by a line, with what its types give.
use Rattle.std.proofs.Common.{◌≡◌, ◌<◌, ◌^◌, ℕ, List, [], ◌∷◌, codes, Bool, true, false, Some, None, refl, arith}
use Rattle.std.specs.List.{AllByRecursion}
use Rattle.std.specs.Str.{IsAscii}
use Rattle.std.proofs.lemmas.Bool.{and_parts}
use Rattle.std.proofs.lemmas.Str.{IsUtf8-from_ascii}
use Rattle.std.proofs.lemmas.Str.Ascii.{IsAscii-nil, IsAscii-cons}
use Rattle.hex.specs.Hex.{lower_digits, encode_lower}
use Rattle.hex.proofs.HexLemmas.{IsAscii-encode_with}
use Rattle.serde_json.specs.Data.{Members}
use Rattle.json_laws.specs.Sound as fit
use Rattle.json_laws.proofs.Sound.{has_fine_keys, object-sound, string-sound, ascii-sound, unsigned-sound, boolean-sound, null-sound}
use Rattle.api_json.specs.Values.{text}
use Rattle.engine_text.specs.Soundness.{IsSound}
use Rattle.journal_lines.specs.CallFields.{fields_of}
use Rattle.journal_lines.specs.Fields.{Field, Word, TextOrNone, NumberOrNone, SecondsOrNone, Flag, TextList, LabelPairs, MountList, FilterRows, HexBytes, WordOrNone, FlagIfSet, CheckIfGiven, KeyedField, is_written, before_members, field_value, is_field_sound, FieldFitsType, field_members, are_fields_sound, FieldsFitTypes, IsWord}
use Rattle.journal_lines.specs.FitsTypes.{FitsTypes, ReplyFitsTypes}
use Rattle.journal_lines.specs.declared.format.Format.{Format}
use Rattle.journal_lines.specs.JournalLines.{call_value, from_value, one_number, answer_value, fed_value, reply_value, ended_ticket}
use Rattle.engine_text.specs.declared.call.Call.{Call}
use Rattle.engine_text.specs.declared.reply.Reply.{Reply}
use Rattle.engine_text.specs.declared.reply.Reply.TheVariants.{Answer, Begun, LogStream, EventStream, JournalStream, Fed, Dropped}
use Rattle.journal_lines.proofs.MemberLemmas.{members}
use Rattle.journal_lines.proofs.FieldLemmas.{is_plain_word, are_words_plain}
use Rattle.journal_lines.proofs.CallLemmas.{told, sound_fields}
use Rattle.journal_lines.proofs.WordLemmas.{words_sound, mounts_sound, check_sound}
use Rattle.journal_lines.proofs.PartLemmas.{seconds_sound, labels_sound, filter_sound}

-- ---- fields

ascii : (bs : List ℕ) → AllByRecursion (λ b. b < 128) bs → IsAscii bs
ascii [] low = IsAscii-nil
ascii (b ∷ bs) low = IsAscii-cons b bs low.0 (ascii bs low.1)

digits : IsAscii lower_digits
digits = ascii lower_digits
    (omega arith, (omega arith, (omega arith, (omega arith, (omega arith, (omega arith, (omega arith, (omega arith, (omega arith, (omega arith, (omega arith, (omega arith, (omega arith, (omega arith, (omega arith, (omega arith, tt))))))))))))))))

pub bytes_sound : (n : ℕ) (bytes : List ℕ) → fit.IsSound n (text (encode_lower bytes))
bytes_sound n bytes = string-sound n (encode_lower bytes) (IsUtf8-from_ascii (encode_lower bytes) (IsAscii-encode_with lower_digits bytes digits))

field_sound : (f : Field) → is_field_sound f ≡ true → FieldFitsType f → is_plain_word f ≡ true → fit.IsSound 125 (field_value f)
field_sound (Word w) e u a = ascii-sound 125 w a
field_sound (TextOrNone test None) e u a = null-sound 125
field_sound (TextOrNone test (Some t)) e u a = string-sound 125 t u
field_sound (NumberOrNone test None) e u a = null-sound 125
field_sound (NumberOrNone test (Some n)) e u a = unsigned-sound 125 n u
field_sound (SecondsOrNone None) e u a = null-sound 125
field_sound (SecondsOrNone (Some s)) e u a = seconds_sound 125 s e
field_sound (Flag b) e u a = boolean-sound 125 b
field_sound (TextList test ws) e u a = words_sound 124 ws u
field_sound (LabelPairs ps) e u a = labels_sound 124 ps e u
field_sound (MountList ms) e u a = mounts_sound 123 ms u
field_sound (FilterRows is_key rows) e u a = filter_sound 123 rows (and_parts _ _ e).0 u
field_sound (HexBytes bs) e u a = bytes_sound 125 bs
field_sound (WordOrNone None) e u a = null-sound 125
field_sound (WordOrNone (Some w)) e u a = ascii-sound 125 w a
field_sound (FlagIfSet b) e u a = boolean-sound 125 b
field_sound (CheckIfGiven None) e u a = null-sound 125
field_sound (CheckIfGiven (Some h)) e u a = check_sound 123 h u

before_sound : (stands : Bool) (f : KeyedField) (ms : Members) → fit.IsSound 125 (field_value f.1) → fit.HasSound 125 ms → fit.HasSound 125 (before_members stands f ms)
before_sound false f ms h rest = rest
before_sound true f ms h rest = (h, rest)

fields_sound : (format : Format) (fs : List KeyedField) → are_fields_sound fs ≡ true → FieldsFitTypes fs → are_words_plain fs ≡ true
    → fit.HasSound 125 (field_members format fs)
fields_sound format [] e u a = tt
fields_sound format (f ∷ fs) e u a =
    let sound = and_parts (is_field_sound f.1) (are_fields_sound fs) e in
    let plain = and_parts (is_plain_word f.1) (are_words_plain fs) a in
    before_sound (is_written format f.1) f (field_members format fs) (field_sound f.1 sound.0 u.0 plain.0) (fields_sound format fs sound.1 u.1 plain.1)

-- ---- calls

pub call_sound : (format : Format) (c : Call) → IsSound c → FitsTypes c → fit.IsSound 126 (call_value format c)
call_sound format c h u =
    let fs : List KeyedField = fields_of c in
    let keys = and_parts (has_fine_keys (field_members format fs)) (are_words_plain fs) ((told c).1 format) in
    object-sound 125 (field_members format fs) keys.0 (fields_sound format fs (sound_fields c h) u keys.1)

-- ---- replies

from_sound : (n : ℕ) → IsWord n → fit.IsSound 126 (from_value n)
from_sound n w = object-sound 125 (members (from_value n)) refl (unsigned-sound 125 n w, (unsigned-sound 125 200 (omega arith), tt))

one_sound : (key : List ℕ) (n : ℕ) → has_fine_keys (members (one_number key n)) ≡ true → IsWord n → fit.IsSound 126 (one_number key n)
one_sound key n fine w = object-sound 125 (members (one_number key n)) fine (unsigned-sound 125 n w, tt)

-- the ticket that a call ends has 64 bits
ended_low : (c : Call) → FitsTypes c → IsWord (ended_ticket c)
ended_low (Call.Take ticket) w = w.1.0
ended_low (Call.Drop ticket) w = w.1.0
ended_low c w = let low : 0 < 2 ^ 64 = omega arith in low

pub reply_sound : (c : Call) (r : Reply) → FitsTypes c → ReplyFitsTypes r → fit.IsSound 126 (reply_value c r)
reply_sound c (Answer status body) w u =
    object-sound 125 (members (answer_value status body)) refl
    (string-sound 125 body u.1, (unsigned-sound 125 status (omega (arith, u.0)), tt))
reply_sound c (Begun ticket) w u = one_sound (codes "ticket") ticket refl u
reply_sound c (LogStream spec) w u = from_sound spec.first u
reply_sound c (EventStream first until filter) w u = from_sound first u
reply_sound c (JournalStream count) w u = from_sound count u
reply_sound c (Fed taken) w u = object-sound 125 (members (fed_value taken)) refl (boolean-sound 125 taken, tt)
reply_sound c Dropped w u = one_sound (codes "dropped") (ended_ticket c) refl (ended_low c w)
