-- The id and the exit code are read back from the texts that tell them.
use Rattle.std.proofs.Common.{arith, ◌≡◌, ◌<◌, ◌/◌, ◌%◌, ◌^◌, ◌&&◌, ℕ, zero, suc, List, [], ◌∷◌, ◌++◌, length, true, Option, Some, None, if◌then◌else◌, refl, sym, ap, ◌∙◌, codes, append_assoc, slice_index}
use Rattle.std.specs.Prelude.{decimal, nat_lt, nat_le, IsUtf8}
use Rattle.std.specs.List.{AllByRecursion}
use Rattle.std.specs.Str.{IsAscii}
use Rattle.std.proofs.lemmas.Bool.Decides.{nat_tests}
use Rattle.std.proofs.lemmas.Str.{IsUtf8-from_ascii}
use Rattle.std.proofs.lemmas.Str.Ascii.{IsAscii-nil, IsAscii-cons}
use Rattle.hex.specs.Hex.{IsBytes, lower_digits, encode_lower, encode_with}
use Rattle.hex.proofs.HexLemmas.{length-encode_with, IsAscii-encode_with}
use Rattle.json.specs.Print.{escape_byte, escape}
use Rattle.serde_json.specs.Data.{Data, unsigned, number, string, array, object, no_items, no_members, member}
use Rattle.serde_json.specs.Find.{get}
use Rattle.serde_json.specs.Written.{compact_text}
use Rattle.json_laws.specs.Sound.{IsCarried}
use Rattle.json_laws.specs.Text.{data_of}
use Rattle.json_laws.proofs.Sound.{object-sound, array-sound, string-sound, unsigned-sound}
use Rattle.json_laws.proofs.Text.{data_of-compact_text}
use Rattle.engine_text.specs.Id.{id_of, id_bytes, key_bytes}
use Rattle.engine_text.proofs.IdLemmas.{IsBytes-id_bytes}
use Rattle.api_json.specs.Event.{if_there, text_at}
use Rattle.client_model.specs.Bodies.{id_in, if_id, status_code_in, code_by, code_of}

-- ---- ids are plain texts

at_place : (P : ℕ → Type 0) (t : List ℕ) (d : ℕ) → d < length t → AllByRecursion P t → P (slice_index t d)
at_place P [] d lt h = absurd (omega (arith, lt))
at_place P (b ∷ t) zero lt h = h.0
at_place P (b ∷ t) (suc d) lt h = at_place P t d (omega (arith, lt)) h.1

-- a byte that no text escapes
abbrev IsPlainByte : ℕ → Type 0
IsPlainByte b = escape_byte b ≡ b ∷ []

digits_plain : AllByRecursion IsPlainByte lower_digits
unfolding escape_byte
digits_plain = (refl, (refl, (refl, (refl, (refl, (refl, (refl, (refl, (refl, (refl, (refl, (refl, (refl, (refl, (refl, (refl, tt))))))))))))))))

plain : (d : ℕ) → d < 16 → IsPlainByte (slice_index lower_digits d)
plain d lt = at_place IsPlainByte lower_digits d lt digits_plain

escaped : (xs : List ℕ) → IsBytes xs → escape (encode_lower xs) ≡ encode_lower xs
unfolding encode_with
escaped [] h = refl
escaped (b ∷ rest) h =
    let fits : b < 256 = h 0 in
    let high : b / 16 < 16 = omega arith in
    let low : b % 16 < 16 = omega arith in
    let x : ℕ = slice_index lower_digits (b / 16) in
    let y : ℕ = slice_index lower_digits (b % 16) in
    ap (λ (e : List ℕ). e ++ (escape_byte y ++ escape (encode_lower rest))) (plain (b / 16) high)
    ∙ (ap (λ (e : List ℕ). x ∷ (e ++ escape (encode_lower rest))) (plain (b % 16) low)
    ∙ ap (λ l. x ∷ y ∷ l) (escaped rest (λ k. h (suc k))))

id_plain : (seed : List ℕ) (n : ℕ) → escape (id_of seed n) ≡ id_of seed n
unfolding id_of
id_plain seed n = escaped (id_bytes seed n) (IsBytes-id_bytes seed n)

bytes_length : (seed : List ℕ) (n : ℕ) → length (id_bytes seed n) ≡ 32
unfolding key_bytes
bytes_length seed n = refl

pub id_length : (seed : List ℕ) (n : ℕ) → length (id_of seed n) ≡ 64
unfolding id_of
id_length seed n = omega (arith, length-encode_with lower_digits (id_bytes seed n), bytes_length seed n)

ascii : (bs : List ℕ) → AllByRecursion (λ b. b < 128) bs → IsAscii bs
ascii [] low = IsAscii-nil
ascii (b ∷ bs) low = IsAscii-cons b bs low.0 (ascii bs low.1)

digits_ascii : IsAscii lower_digits
digits_ascii = ascii lower_digits
    (omega arith, (omega arith, (omega arith, (omega arith, (omega arith, (omega arith, (omega arith, (omega arith, (omega arith, (omega arith, (omega arith, (omega arith, (omega arith, (omega arith, (omega arith, (omega arith, tt))))))))))))))))

id_utf8 : (seed : List ℕ) (n : ℕ) → IsUtf8 (id_of seed n)
unfolding id_of
id_utf8 seed n = IsUtf8-from_ascii (encode_lower (id_bytes seed n)) (IsAscii-encode_with lower_digits (id_bytes seed n) digits_ascii)

-- ---- the id

-- what tells that a container with this id was created
abbrev pub created_text : List ℕ → List ℕ
created_text id = codes "{\"Id\":\"" ++ id ++ codes "\",\"Warnings\":[]}"

created_data : List ℕ → Data
created_data id = object (member (codes "Id") (string id) (member (codes "Warnings") (array no_items) no_members))

created_is : (id : List ℕ) → escape id ≡ id → compact_text (created_data id) ≡ created_text id
unfolding escape_byte created_data
created_is id same =
    ap (λ (e : List ℕ). codes "{\"Id\":\"" ++ ((e ++ 34 ∷ []) ++ codes ",\"Warnings\":[]}")) same
    ∙ ap (λ l. codes "{\"Id\":\"" ++ l) (append_assoc id (34 ∷ []) (codes ",\"Warnings\":[]}"))

created_carried : (id : List ℕ) → IsUtf8 id → IsCarried (created_data id)
unfolding created_data
created_carried id utf8 =
    object-sound 126 (member (codes "Id") (string id) (member (codes "Warnings") (array no_items) no_members)) refl
    (string-sound 126 id utf8, (array-sound 125 no_items tt, tt))

id_found : (id : List ℕ) → if_there (text_at (codes "Id") (created_data id)) if_id ≡ if_id id
unfolding created_data
id_found id = refl

pub id_read : (seed : List ℕ) (n : ℕ) → id_in (created_text (id_of seed n)) ≡ Some (id_of seed n)
id_read seed n =
    let id : List ℕ = id_of seed n in
    let data_is : data_of (created_text id) ≡ Some (created_data id) =
    ap data_of (sym (created_is id (id_plain seed n))) ∙ data_of-compact_text (created_data id) (created_carried id (id_utf8 seed n)) in
    ap (λ (o : Option Data). if_there (if_there o (text_at (codes "Id"))) if_id) data_is
    ∙ (id_found id ∙ ap (λ m. if nat_lt 0 m && nat_le m 4096 then Some id else None) (id_length seed n))

-- ---- the code

-- what tells an exit code
abbrev pub waited_text : ℕ → List ℕ
waited_text code = codes "{\"StatusCode\":" ++ decimal code ++ codes "}"

waited_data : ℕ → Data
waited_data code = object (member (codes "StatusCode") (number (unsigned code)) no_members)

waited_is : (code : ℕ) → compact_text (waited_data code) ≡ waited_text code
unfolding escape_byte waited_data
waited_is code = refl

waited_carried : (code : ℕ) → code < 2 ^ 64 → IsCarried (waited_data code)
unfolding waited_data
waited_carried code low = object-sound 126 (member (codes "StatusCode") (number (unsigned code)) no_members) refl (unsigned-sound 126 code low, tt)

code_found : (code : ℕ) → if_there (get (codes "StatusCode") (waited_data code)) code_by ≡ code_of code
unfolding waited_data
code_found code = refl

code_is : (code : ℕ) → code < 256 → code_of code ≡ Some code
code_is code low =
    let less : nat_lt code 256 ≡ true = grind (arith, nat_tests, low) in
    ap (λ b. if b then Some code else None) less

pub code_read : (code : ℕ) → code < 256 → status_code_in (waited_text code) ≡ Some code
code_read code low =
    let data_is : data_of (waited_text code) ≡ Some (waited_data code) =
    ap data_of (sym (waited_is code)) ∙ data_of-compact_text (waited_data code) (waited_carried code (omega (arith, low))) in
    ap (λ (o : Option Data). if_there (if_there o (get (codes "StatusCode"))) code_by) data_is ∙ (code_found code ∙ code_is code low)
