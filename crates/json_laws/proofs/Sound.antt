-- Data of a fixed shape, part by part: the keys of an object by one test, and then its values.
use Rattle.std.proofs.Common.{◌≡◌, ◌≤◌, ◌<◌, ◌^◌, ℕ, suc, List, [], ◌∷◌, map, Bool, true, false, ◌&&◌, IsUtf8, refl, arith, Ordering, Less, Equal, Greater}
use Rattle.std.specs.Ordering.{nat_cmp, match_ordering}
use Rattle.std.specs.Cmp.Lexicographic.{slice_cmp}
use Rattle.std.proofs.lemmas.Bool.{and_parts}
use Rattle.json.proofs.Printed.Utf8.{are_ascii, IsUtf8-are_ascii}
use Rattle.std.specs.Prelude.{ℤ, pos, negsuc, FitsSigned}
use Rattle.std.specs.Int.{w32, w64}
use Rattle.std.proofs.lemmas.Int.{ints}
use Rattle.serde_json.specs.Find.{of_integer}
use Rattle.serde_json.specs.Data.{null, boolean, number, unsigned, string, array, object, Items, no_items, item, Members, no_members, member, items_depth, members_depth}
use Rattle.json_laws.specs.Plain.{AreAbove, ArePlain, AreRising}
use Rattle.json_laws.specs.Utf8.{ItemsHaveUtf8, MembersHaveUtf8}
use Rattle.json_laws.specs.Pairs.{Texts, pairs_members, pairs_data, DoKeysRise, ArePairsUtf8, words_items, words_data, AreWordsUtf8}
use Rattle.json_laws.specs.Sound.{IsSound, AreSound, HasSound}
use Rattle.json_laws.proofs.Pairs.{put_pairs-rising, members_depth-pairs}

abbrev pub is_above : List ℕ → Members → Bool
is_above k no_members = true
is_above k (member l d ms) = match_ordering (slice_cmp nat_cmp l k) false false true && is_above k ms

-- the keys are ASCII and rise
abbrev pub has_fine_keys : Members → Bool
has_fine_keys no_members = true
has_fine_keys (member k d ms) = are_ascii k && (is_above k ms && has_fine_keys ms)

greater : (o : Ordering) → match_ordering o false false true ≡ true → o ≡ Greater
greater Less e = cc e
greater Equal e = cc e
greater Greater e = refl

above : (k : List ℕ) (ms : Members) → is_above k ms ≡ true → AreAbove k ms
above k no_members e = tt
above k (member l d ms) e = let p = and_parts _ _ e in (greater _ p.0, above k ms p.1)

members_sound : (n : ℕ) (ms : Members) → has_fine_keys ms ≡ true → HasSound n ms → AreRising ms × MembersHaveUtf8 ms × (members_depth ms ≤ n)
members_sound n no_members e h = (tt, tt, omega arith)
members_sound n (member k d ms) e h =
    let p = and_parts _ _ e in
    let q = and_parts _ _ p.1 in
    let (rising, utf8, low) = members_sound n ms q.1 h.1 in
    ((h.0.0, above k ms q.0, rising), (IsUtf8-are_ascii k p.0, h.0.1, utf8), omega (arith, h.0.2))

-- an object with literal keys: `object-sound n _ refl (value, (value, .. tt))`
pub object-sound : (n : ℕ) (ms : Members) → has_fine_keys ms ≡ true → HasSound n ms → IsSound (suc n) (object ms)
object-sound n ms e h = let (rising, utf8, low) = members_sound n ms e h in (rising, utf8, omega arith)

items_sound : (n : ℕ) (ds : Items) → AreSound n ds → ArePlain ds × ItemsHaveUtf8 ds × (items_depth ds ≤ n)
items_sound n no_items h = (tt, tt, omega arith)
items_sound n (item d ds) h =
    let (plain, utf8, low) = items_sound n ds h.1 in
    ((h.0.0, plain), (h.0.1, utf8), omega (arith, h.0.2))

pub array-sound : (n : ℕ) (ds : Items) → AreSound n ds → IsSound (suc n) (array ds)
array-sound n ds h = let (plain, utf8, low) = items_sound n ds h in (plain, utf8, omega arith)

pub null-sound : (n : ℕ) → IsSound n null
null-sound n = (tt, tt, omega arith)

pub boolean-sound : (n : ℕ) (b : Bool) → IsSound n (boolean b)
boolean-sound n b = (tt, tt, omega arith)

pub unsigned-sound : (n m : ℕ) → m < 2 ^ 64 → IsSound n (number (unsigned m))
unsigned-sound n m h = (h, tt, omega arith)

-- a whole number of 64 bits, whatever its sign
pub integer-sound : (n : ℕ) (z : ℤ) → FitsSigned w64 z → IsSound n (number (of_integer z))
integer-sound n (pos m) h = (omega (arith, ints), tt, omega arith)
integer-sound n (negsuc m) h = (omega (arith, ints), tt, omega arith)

-- one of 32 bits is one of 64
pub FitsSigned-wider : (z : ℤ) → FitsSigned w32 z → FitsSigned w64 z
FitsSigned-wider z h = omega (arith, ints)

pub string-sound : (n : ℕ) (s : List ℕ) → IsUtf8 s → IsSound n (string s)
string-sound n s u = (tt, u, omega arith)

-- a literal text: `ascii-sound n _ refl`
pub ascii-sound : (n : ℕ) (s : List ℕ) → are_ascii s ≡ true → IsSound n (string s)
ascii-sound n s e = (tt, IsUtf8-are_ascii s e, omega arith)

pairs_utf8 : (ps : Texts) → ArePairsUtf8 ps → MembersHaveUtf8 (pairs_members ps)
pairs_utf8 [] u = tt
pairs_utf8 (p ∷ ps) u = (u.0, u.1, pairs_utf8 ps u.2)

pub pairs-sound : (n : ℕ) (ps : Texts) → DoKeysRise ps → ArePairsUtf8 ps → IsSound (suc n) (pairs_data ps)
pairs-sound n ps rising u =
    rw (put_pairs-rising ps rising) (rising, pairs_utf8 ps u, omega (arith, members_depth-pairs ps))

words_sound : (n : ℕ) (ws : List (List ℕ)) → AreWordsUtf8 ws → AreSound n (words_items ws)
words_sound n [] u = tt
words_sound n (w ∷ ws) u = (string-sound n w u.0, words_sound n ws u.1)

pub words-sound : (n : ℕ) (ws : List (List ℕ)) → AreWordsUtf8 ws → IsSound (suc n) (words_data ws)
words-sound n ws u = array-sound n (words_items ws) (words_sound n ws u)

abbrev pub is_key_above : List ℕ → List (List ℕ) → Bool
is_key_above k [] = true
is_key_above k (l ∷ ls) = match_ordering (slice_cmp nat_cmp l k) false false true && is_key_above k ls

-- the keys rise, as a test
abbrev pub do_keys_rise : List (List ℕ) → Bool
do_keys_rise [] = true
do_keys_rise (k ∷ ks) = is_key_above k ks && do_keys_rise ks

pairs_above : (k : List ℕ) (ps : Texts) → is_key_above k (map (λ p. p.0) ps) ≡ true → AreAbove k (pairs_members ps)
pairs_above k [] e = tt
pairs_above k (p ∷ ps) e = let q = and_parts _ _ e in (greater _ q.0, pairs_above k ps q.1)

-- for literal keys: `DoKeysRise-keys ps (ap do_keys_rise keys)`, where `keys` says which they are
pub DoKeysRise-keys : (ps : Texts) → do_keys_rise (map (λ p. p.0) ps) ≡ true → DoKeysRise ps
DoKeysRise-keys [] e = tt
DoKeysRise-keys (p ∷ ps) e = let q = and_parts _ _ e in (tt, pairs_above p.0 ps q.0, DoKeysRise-keys ps q.1)
