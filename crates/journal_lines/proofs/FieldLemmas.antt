-- A call's fields: put in one after another they stand as its members, and each is what its type holds.
use Rattle.std.proofs.Common.{◌≡◌, ℕ, List, [], ◌∷◌, Some, Bool, true, false, ◌&&◌, refl, sym, ap, ◌∙◌, Ordering, Less, Equal, Greater}
use Rattle.std.specs.Prelude.{All}
use Rattle.std.specs.Ordering.{nat_cmp, match_ordering}
use Rattle.std.specs.Cmp.Lexicographic.{slice_cmp}
use denote.Ref.{Bor}
use Rattle.std.proofs.lemmas.Bool.{and_parts}
use Rattle.std.proofs.lemmas.List.Elements.{All-head, All-tail}
use Rattle.json.proofs.Printed.Utf8.{are_ascii}
use Rattle.serde_json.specs.Data.{Members, no_members, member}
use Rattle.json_laws.specs.Plain.{AreAbove}
use Rattle.json_laws.proofs.RoundTrip.{joined, last_of, AreOver, put_end, all_over_last, joined_last, joined_none, none_over}
use Rattle.json_laws.proofs.Sound.{is_above, has_fine_keys}
use Rattle.journal_lines.specs.Fields as told
use Rattle.journal_lines.specs.Fields.{KeyedField, field_value, is_written, FieldFitsType, FieldsFitTypes, before_members, field_members, put_written, put_fields}
use Rattle.journal_lines.specs.LentFields.{told_field, told_list}
use Rattle.journal_lines.specs.declared.fields.kinds.Field.{Field}
use Rattle.journal_lines.specs.declared.format.Format.{Format}

-- ---- words and keys

-- a word of the format is ASCII
abbrev pub is_plain_word : told.Field → Bool
is_plain_word (told.Word w) = are_ascii w
is_plain_word (told.WordOrNone (Some w)) = are_ascii w
is_plain_word f = true

abbrev pub are_words_plain : List KeyedField → Bool
are_words_plain [] = true
are_words_plain (f ∷ fs) = is_plain_word f.1 && are_words_plain fs

-- the keys are ASCII and rise, and so are the words of the format
abbrev pub is_fine : Format → List KeyedField → Bool
is_fine format fs = has_fine_keys (field_members format fs) && are_words_plain fs

-- ---- members

greater : (o : Ordering) → match_ordering o false false true ≡ true → o ≡ Greater
greater Less e = cc e
greater Equal e = cc e
greater Greater e = refl

above : (k : List ℕ) (ms : Members) → is_above k ms ≡ true → AreAbove k ms
above k no_members e = tt
above k (member l d ms) e = let p = and_parts _ _ e in (greater (slice_cmp nat_cmp l k) p.0, above k ms p.1)

-- fields that are put behind members with lower keys stand there
abbrev ArePut : Format → List KeyedField → Type 0
ArePut format fs = (found : Members) → has_fine_keys (field_members format fs) ≡ true → AreOver (field_members format fs) found
    → put_fields format fs found ≡ joined found (field_members format fs)

put_one : (format : Format) (stands : Bool) (f : KeyedField) (fs : List KeyedField) → ArePut format fs → (found : Members)
    → has_fine_keys (before_members stands f (field_members format fs)) ≡ true → AreOver (before_members stands f (field_members format fs)) found
    → put_fields format fs (put_written stands f found) ≡ joined found (before_members stands f (field_members format fs))
put_one format false f fs put found fine over = put found fine over
put_one format true f fs put found fine over =
    let p = and_parts _ _ fine in
    let q = and_parts _ _ p.1 in
    let d = field_value f.1 in
    ap (put_fields format fs) (put_end f.0 d found over.0)
    ∙ put (last_of found f.0 d) q.1 (all_over_last (field_members format fs) f.0 d found over.1 (above f.0 (field_members format fs) q.0))
    ∙ joined_last found f.0 d (field_members format fs)

put_all : (format : Format) (fs : List KeyedField) → ArePut format fs
put_all format [] = λ found fine over. sym (joined_none found)
put_all format (f ∷ fs) = put_one format (is_written format f.1) f fs (put_all format fs)

-- fields whose keys rise are members as they stand
pub placed : (format : Format) (fs : List KeyedField) → is_fine format fs ≡ true → put_fields format fs no_members ≡ field_members format fs
placed format fs fine =
    put_all format fs no_members (and_parts (has_fine_keys (field_members format fs)) (are_words_plain fs) fine).0 (none_over (field_members format fs))

-- ---- types

-- where each that is lent is what its type holds, they are
pub each_fits : (fs : List (Bor (List ℕ) × Field)) → All (λ f. FieldFitsType (told_field f.1)) fs → FieldsFitTypes (told_list fs)
each_fits [] h = tt
each_fits (f ∷ fs) h =
    let fits = λ (f : Bor (List ℕ) × Field). FieldFitsType (told_field f.1) in
    (All-head fits f fs h, each_fits fs (All-tail fits f fs h))
