-- The parts of a call's value: they are carried, and found again.
use Rattle.std.proofs.Common.{◌≡◌, ◌<◌, ◌≤◌, ◌^◌, ℕ, suc, ℤ, pos, negsuc, List, [], ◌∷◌, map, Bool, true, false, nat_le, nat_lt, is_some, Option, Some, None, option_map, refl, ap, ◌∙◌, arith}
use Rattle.std.specs.Prelude.{FitsSigned}
use Rattle.std.specs.Int.{w64}
use Rattle.std.specs.Option.{option_map_or}
use Rattle.std.specs.Result.{result_ok}
use Rattle.std.proofs.lemmas.Int.{ints}
use Rattle.std.proofs.lemmas.Bool.{and_parts}
use Rattle.json.proofs.Printed.Utf8.{are_ascii, IsUtf8-are_ascii}
use Rattle.serde_json.specs.Data.{Data, null, members_depth}
use Rattle.serde_json.specs.Find.{as_null}
use Rattle.json_laws.specs.Pairs as laws
use Rattle.json_laws.specs.Sound as fit
use Rattle.json_laws.specs.Utf8.{MembersHaveUtf8}
use Rattle.json_laws.proofs.Pairs.{texts_of-put_pairs}
use Rattle.json_laws.proofs.Sound.{null-sound, integer-sound, pairs-sound}
use Rattle.api_json.specs.Values.{text, natural, integer, list_of, pairs_of, pairs_object}
use Rattle.api_json.specs.Lists.{pairs_from, pairs_in}
use Rattle.engine_text.specs.Filter.{filter_word}
use Rattle.api_json.specs.Filters.{key_among}
use Rattle.api_json.specs.Container.{policy_word, most_retries}
use Rattle.engine_text.specs.Soundness.{if_given, is_signal, is_policy, is_seconds, are_rising, are_labels}
use Rattle.journal_lines.specs.Fields.{filter_value}
use Rattle.engine_text.specs.Pairs.{ArePairsUtf8}
use Rattle.engine_text.specs.Filter.{AreRowsUtf8}
use Rattle.engine_text.specs.Policy.{read_policy}
use Rattle.engine_text.specs.declared.filter.FilterKey.{FilterKey}
use Rattle.engine_text.specs.declared.filter.FilterKey.TheVariants as Key
use Rattle.engine_text.specs.declared.filter.FilterRow.{FilterRow}
use Rattle.engine_text.specs.declared.pairs.Pair.{Pair}
use Rattle.engine_text.specs.declared.policy.Policy.{Policy}
use Rattle.engine_text.specs.declared.signal.Signal.{Signal}
use Rattle.journal_lines.specs.Reading.Parts.{at_most, count_of, signal_of, integer_of, seconds_of, or_null}
use Rattle.journal_lines.specs.Reading.Lists.{filter_keys, row_of, rows_of, filter_in}
use Rattle.journal_lines.proofs.TestLemmas.{le_of, eq_of, le_is, lt_is}
use Rattle.journal_lines.proofs.RisingLemmas.{labels_rise, rows_members, rows_rise, put_rows-rising}
use Rattle.journal_lines.proofs.WordLemmas.{words_sound, words_back}

-- ---- numbers

pub at_most-is : (most n : ℕ) → n ≤ most → at_most most n ≡ Some n
at_most-is most n low = let test : nat_le n most ≡ true = le_is n most low in rw test refl

pub count_back : (n : ℕ) → n < 2 ^ 32 → count_of (natural n) ≡ Some n
count_back n low = at_most-is 4294967295 n (omega (arith, low))

signal_low : (s : Signal) → is_signal s ≡ true → s.number ≤ 31
signal_low s e = le_of s.number 31 (and_parts (nat_le 1 s.number) (nat_le s.number 31) e).1

pub signal_back : (s : Signal) → is_signal s ≡ true → signal_of (natural s.number) ≡ Some s
signal_back s e = rw (at_most-is 255 s.number (omega (arith, signal_low s e))) refl

seconds_fit : (z : ℤ) → is_seconds z ≡ true → FitsSigned w64 z
seconds_fit (pos n) e = let low : n ≤ 2147483 = le_of n 2147483 e in omega (arith, ints)
seconds_fit (negsuc k) e = let low : k ≡ 0 = eq_of k 0 e in omega (arith, ints)

pub seconds_sound : (n : ℕ) (z : ℤ) → is_seconds z ≡ true → fit.IsSound n (integer z)
seconds_sound n z e = integer-sound n z (seconds_fit z e)

integer_back : (n : ℕ) → n ≤ 2147483647 → integer_of (natural n) ≡ Some (pos n)
integer_back n low = let below : nat_lt n (2 ^ 63) ≡ true = lt_is n (2 ^ 63) (omega (arith, low)) in rw below refl

pub seconds_back : (z : ℤ) → is_seconds z ≡ true → seconds_of (integer z) ≡ Some z
seconds_back (pos n) e = let low : n ≤ 2147483 = le_of n 2147483 e in rw (integer_back n (omega (arith, low)), e) refl
seconds_back (negsuc k) e = rw e refl

-- ---- what may be absent

pub given_back : {A : Type 0} (f : A → Data) (read : Data → Option A) (p : A → Bool) (o : Option A)
    → ((x : A) → is_some (as_null (f x)) ≡ false) → ((x : A) → p x ≡ true → read (f x) ≡ Some x)
    → if_given p o ≡ true → or_null read (option_map_or f o null) ≡ Some o
given_back f read p None not_null back e = refl
given_back f read p (Some x) not_null back e = rw (not_null x, back x e) refl

pub given_sound : {A : Type 0} (n : ℕ) (f : A → Data) (p : A → Bool) (o : Option A) → ((x : A) → p x ≡ true → fit.IsSound n (f x))
    → if_given p o ≡ true → fit.IsSound n (option_map_or f o null)
given_sound n f p None sound e = null-sound n
given_sound n f p (Some x) sound e = sound x e

pub seconds_here : (z : ℤ) → is_some (as_null (integer z)) ≡ false
seconds_here (pos n) = refl
seconds_here (negsuc k) = refl

-- ---- labels and filters

utf8_of : (ps : List Pair) → ArePairsUtf8 ps → laws.ArePairsUtf8 (pairs_of ps)
utf8_of [] h = tt
utf8_of (p ∷ ps) h = (h.0, h.1, utf8_of ps h.2)

pub labels_sound : (n : ℕ) (ps : List Pair) → are_labels ps ≡ true → ArePairsUtf8 ps → fit.IsSound (suc n) (pairs_object ps)
labels_sound n ps e u = pairs-sound n (pairs_of ps) (labels_rise ps e) (utf8_of ps u)

pairs_same : (ps : List Pair) → pairs_from (pairs_of ps) ≡ ps
pairs_same [] = refl
pairs_same (p ∷ ps) = ap (λ (rest : List Pair). p ∷ rest) (pairs_same ps)

pub labels_back : (ps : List Pair) → are_labels ps ≡ true → pairs_in (pairs_object ps) ≡ Some ps
labels_back ps e = ap (option_map pairs_from) (texts_of-put_pairs (pairs_of ps) (labels_rise ps e)) ∙ ap Some (pairs_same ps)

key_back : (key : FilterKey) → (key_among filter_keys (filter_word key) ≡ Some key) × (are_ascii (filter_word key) ≡ true)
key_back Key.Kind = (refl, refl)
key_back Key.Action = (refl, refl)
key_back Key.Container = (refl, refl)
key_back Key.Image = (refl, refl)
key_back Key.Volume = (refl, refl)
key_back Key.Id = (refl, refl)
key_back Key.Name = (refl, refl)
key_back Key.State = (refl, refl)
key_back Key.Exited = (refl, refl)
key_back Key.Ancestor = (refl, refl)
key_back Key.Label = (refl, refl)

row_back : (r : FilterRow) → row_of (filter_word r.key) (list_of text r.values) ≡ Some r
row_back r = rw ((key_back r.key).0, words_back r.values) refl

rows_back : (rs : List FilterRow) → rows_of (rows_members rs) ≡ Some rs
rows_back [] = refl
rows_back (r ∷ rs) = rw (row_back r, rows_back rs) refl

pub filter_back : (rs : List FilterRow) → are_rising (map (λ (r : FilterRow). filter_word r.key) rs) ≡ true → filter_in (filter_value rs) ≡ Some rs
filter_back rs e = ap rows_of (put_rows-rising rs (rows_rise rs e)) ∙ rows_back rs

rows_utf8 : (n : ℕ) (rs : List FilterRow) → AreRowsUtf8 rs → MembersHaveUtf8 (rows_members rs) × (members_depth (rows_members rs) ≤ suc n)
rows_utf8 n [] u = (tt, omega arith)
rows_utf8 n (r ∷ rs) u =
    let words = words_sound n r.values u.0 in
    let (rest, low) = rows_utf8 n rs u.1 in
    ((IsUtf8-are_ascii (filter_word r.key) (key_back r.key).1, words.1, rest), omega (arith, low, words.2))

pub filter_sound : (n : ℕ) (rs : List FilterRow) → are_rising (map (λ (r : FilterRow). filter_word r.key) rs) ≡ true → AreRowsUtf8 rs
    → fit.IsSound (suc (suc n)) (filter_value rs)
filter_sound n rs e u =
    let rise = rows_rise rs e in
    let (utf8, low) = rows_utf8 n rs u in
    rw (put_rows-rising rs rise) (rise, utf8, omega (arith, low))

-- ---- policies

pub policy_low : (p : Policy) → is_policy p ≡ true → most_retries p ≤ 2147483647
policy_low Policy.No e = omega arith
policy_low Policy.Always e = omega arith
policy_low Policy.UnlessStopped e = omega arith
policy_low (Policy.OnFailure most) e = le_of most 2147483647 e

pub most_back : (p : Policy) → is_policy p ≡ true → integer_of (natural (most_retries p)) ≡ Some (pos (most_retries p))
most_back p e = integer_back (most_retries p) (policy_low p e)

pub policy_back : (p : Policy) → is_policy p ≡ true → result_ok (read_policy (policy_word p) (pos (most_retries p))) ≡ Some p
policy_back Policy.No e = refl
policy_back Policy.Always e = refl
policy_back Policy.UnlessStopped e = refl
policy_back (Policy.OnFailure most) e = rw e refl
