-- Keys that rise: an object of them stands as its members are put in.
use Rattle.std.proofs.Common.{◌≡◌, ℕ, List, [], ◌∷◌, map, true, false, Ordering, Less, Equal, Greater, refl, sym, ap, ◌∙◌}
use Rattle.std.specs.Prelude.{⊤}
use Rattle.std.specs.Ordering.{nat_cmp, is_lt, ordering_reverse}
use Rattle.std.specs.Cmp.Lexicographic.{slice_cmp, nat_list_cmp_total}
use Rattle.std.proofs.lemmas.Bool.{and_parts}
use Rattle.serde_json.specs.Data.{Members, no_members, member}
use Rattle.json_laws.specs.Plain.{IsPlain, AreAbove, AreRising}
use Rattle.json_laws.specs.Pairs.{pairs_members, DoKeysRise}
use Rattle.json_laws.proofs.RoundTrip.{joined, last_of, AreOver, put_end, all_over_last, joined_last, joined_none, none_over}
use Rattle.api_json.specs.Values.{text, list_of, pairs_of}
use Rattle.engine_text.specs.Filter.{filter_word}
use Rattle.engine_text.specs.Soundness.{are_rising, are_labels}
use Rattle.journal_lines.proofs.MemberLemmas.{names}
use Rattle.journal_lines.specs.Fields.{put_rows}
use Rattle.engine_text.specs.declared.filter.FilterRow.{FilterRow}
use Rattle.engine_text.specs.declared.pairs.Pair.{Pair}
use Rattle.journal_lines.specs.Rising.{rises_first}
use Rattle.journal_lines.proofs.WordLemmas.{words_plain}

less : (o : Ordering) → is_lt o ≡ true → o ≡ Less
less Less e = refl
less Equal e = cc e
less Greater e = cc e

-- below the next key, and so below the one behind it
skips : (k l : List ℕ) (ks : List (List ℕ)) → are_rising (k ∷ l ∷ ks) ≡ true → are_rising (k ∷ ks) ≡ true
skips k l [] e = refl
skips k l (m ∷ ks) e =
    let p = and_parts _ _ e in
    let q = and_parts _ _ p.1 in
    let below = nat_list_cmp_total.trans k l m (less (slice_cmp nat_cmp k l) p.0) (less (slice_cmp nat_cmp l m) q.0) in
    rw below q.1

above : (k : List ℕ) (ms : Members) → are_rising (k ∷ names ms) ≡ true → AreAbove k ms
above k no_members e = tt
above k (member l d ms) e =
    let p = and_parts _ _ e in
    (nat_list_cmp_total.antisymm l k ∙ ap ordering_reverse (less (slice_cmp nat_cmp k l) p.0), above k ms (skips k l (names ms) e))

abbrev HavePlain : Members → Type 0
HavePlain no_members = ⊤
HavePlain (member k d ms) = IsPlain d × HavePlain ms

rest_rises : (k : List ℕ) (ks : List (List ℕ)) → are_rising (k ∷ ks) ≡ true → are_rising ks ≡ true
rest_rises k [] e = refl
rest_rises k (l ∷ ks) e = (and_parts _ _ e).1

rising : (ms : Members) → HavePlain ms → are_rising (names ms) ≡ true → AreRising ms
rising no_members plain e = tt
rising (member k d ms) plain e = (plain.0, above k ms e, rising ms plain.1 (rest_rises k (names ms) e))

-- ---- text by text

pub rises_on : (t : List ℕ) (ts : List (List ℕ)) → rises_first (t ∷ ts) ≡ true → are_rising (t ∷ ts) ≡ are_rising ts
rises_on t [] e = refl
rises_on t (u ∷ us) e = rw e refl

pub rises_off : (t : List ℕ) (ts : List (List ℕ)) → rises_first (t ∷ ts) ≡ false → are_rising (t ∷ ts) ≡ false
rises_off t [] e = cc e
rises_off t (u ∷ us) e = rw e refl

-- ---- labels

labels_plain : (ps : List Pair) → HavePlain (pairs_members (pairs_of ps))
labels_plain [] = tt
labels_plain (p ∷ ps) = (tt, labels_plain ps)

label_names : (ps : List Pair) → names (pairs_members (pairs_of ps)) ≡ map (λ (p : Pair). p.key) ps
label_names [] = refl
label_names (p ∷ ps) = ap (λ (l : List (List ℕ)). p.key ∷ l) (label_names ps)

pub labels_rise : (ps : List Pair) → are_labels ps ≡ true → DoKeysRise (pairs_of ps)
labels_rise ps e = rising (pairs_members (pairs_of ps)) (labels_plain ps) (ap are_rising (label_names ps) ∙ e)

-- ---- rows

-- the members of rows as they stand
abbrev pub rows_members : List FilterRow → Members
rows_members [] = no_members
rows_members (r ∷ rs) = member (filter_word r.key) (list_of text r.values) (rows_members rs)

rows_plain : (rs : List FilterRow) → HavePlain (rows_members rs)
rows_plain [] = tt
rows_plain (r ∷ rs) = (words_plain r.values, rows_plain rs)

row_names : (rs : List FilterRow) → names (rows_members rs) ≡ map (λ (r : FilterRow). filter_word r.key) rs
row_names [] = refl
row_names (r ∷ rs) = ap (λ (l : List (List ℕ)). filter_word r.key ∷ l) (row_names rs)

pub rows_rise : (rs : List FilterRow) → are_rising (map (λ (r : FilterRow). filter_word r.key) rs) ≡ true → AreRising (rows_members rs)
rows_rise rs e = rising (rows_members rs) (rows_plain rs) (ap are_rising (row_names rs) ∙ e)

put_all : (rs : List FilterRow) (found : Members) → AreRising (rows_members rs) → AreOver (rows_members rs) found
    → put_rows rs found ≡ joined found (rows_members rs)
put_all [] found rise over = sym (joined_none found)
put_all (r ∷ rs) found rise over =
    let k = filter_word r.key in
    let d = list_of text r.values in
    ap (put_rows rs) (put_end k d found over.0)
    ∙ put_all rs (last_of found k d) rise.2 (all_over_last (rows_members rs) k d found over.1 rise.1)
    ∙ joined_last found k d (rows_members rs)

-- rows whose keys rise are members as they stand
pub put_rows-rising : (rs : List FilterRow) → AreRising (rows_members rs) → put_rows rs no_members ≡ rows_members rs
put_rows-rising rs rise = put_all rs no_members rise (none_over (rows_members rs))
