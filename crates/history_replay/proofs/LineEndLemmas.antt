-- A journal's line has its line end at the end alone, so a text begins with one line at most.
use Rattle.std.proofs.Common.{◌≡◌, ◌<◌, ◌^◌, ◌+◌, ◌%◌, ◌==◌, ◌&&◌, ℕ, zero, suc, pos, negsuc, Bool, true, false, not, List, [], ◌∷◌, ◌++◌, get_or, drop, refl, sym, ap, subst, ◌∙◌, inl, inr, arith, decimal}
use Rattle.std.specs.Prelude.{◌≢◌}
use Rattle.std.specs.List.{AllByRecursion}
use Rattle.std.proofs.lemmas.Bool.{and_parts, cases_lt, cases_eq}
use Rattle.std.proofs.lemmas.Bool.Decides.{nat_tests}
use Rattle.std.proofs.lemmas.Fmt.{decimal_by_steps}
use Rattle.std.proofs.lemmas.List.Elements.{All-from_recursion, recursion_from_All}
use Rattle.json.specs.Print.{escape_byte, escape, quoted}
use Rattle.json.proofs.Printed.Strings.{escape_byte_plain}
use Rattle.serde_json.specs.Data.{Num, unsigned, negative, float, Data, null, boolean, number, string, array, object, Items, no_items, item, Members, no_members, member}
use Rattle.serde_json.specs.Written.{number_text, comma_if, compact_text, items_text, members_text}
use Rattle.json_laws.specs.Plain.{IsWhole, IsPlain, ArePlain, AreRising}
use Rattle.json_laws.specs.Sound.{line_text}
use Rattle.engine_text.specs.declared.entry.Entry.{Entry}
use Rattle.journal_lines.specs.JournalLines.{entry_value, journal_line, header_value, header_line, IsHeader}
use Rattle.journal_lines.specs.Line.{HasLine, IsJournalLine, BeginsWithLine, BeginsWithHeader}
use Rattle.journal_lines.proofs.EntryLemmas.{is_carried}
use Rattle.journal_lines.proofs.HeaderLemmas as headers
use Rattle.journal_lines.specs.declared.format.Format.{Format}
use Rattle.history_replay.specs.Cutting.{HasNoLineEnd, IsFirstLine}

-- ---- texts without a line end

abbrev no_end : List ℕ → Bool
no_end [] = true
no_end (x ∷ xs) = not (x == 10) && no_end xs

both : (x y : Bool) → x ≡ true → y ≡ true → (x && y) ≡ true
both true y f g = g
both false y f g = let never : ⊥ = cc in absurd never

no_end-append : (xs ys : List ℕ) → no_end xs ≡ true → no_end ys ≡ true → no_end (xs ++ ys) ≡ true
no_end-append [] ys h k = k
no_end-append (x ∷ xs) ys h k = let p = and_parts _ _ h in both _ _ p.0 (no_end-append xs ys p.1 k)

other : (x : ℕ) → (x ≡ 10 → ⊥) → no_end (x ∷ []) ≡ true
other x differs = go (x == 10) refl
  where
    go : (t : Bool) → (x == 10) ≡ t → (not t && true) ≡ true
    go true e = absurd (differs (grind (arith, nat_tests, e)))
    go false e = refl

then : (x : ℕ) (xs : List ℕ) → no_end (x ∷ []) ≡ true → no_end xs ≡ true → no_end (x ∷ xs) ≡ true
then x xs h k = no_end-append (x ∷ []) xs h k

-- ---- numbers and texts

decimal_ends : (n : ℕ) → n < 2 ^ 64 → no_end (decimal n) ≡ true
decimal_ends = decimal_by_steps (λ m ds. no_end ds ≡ true) (λ m l. other (48 + m) (λ e. omega (arith, e)))
    (λ m ds l h. no_end-append ds ((48 + m % 10) ∷ []) h (other (48 + m % 10) (λ e. omega (arith, e))))

number_ends : (n : Num) → IsWhole n → no_end (number_text n) ≡ true
number_ends (unsigned n) h = decimal_ends n h
number_ends (negative (pos n)) h = absurd h
number_ends (negative (negsuc n)) h = then 45 (decimal (suc n)) refl (decimal_ends (suc n) (omega (arith, h)))
number_ends (float x) h = absurd h

-- the escapes of the bytes below n have none
abbrev escapes_below : ℕ → Bool
escapes_below zero = true
escapes_below (suc n) = no_end (escape_byte n) && escapes_below n

escape_below : (n : ℕ) → escapes_below n ≡ true → (x : ℕ) → x < n → no_end (escape_byte x) ≡ true
escape_below zero e x h = absurd (omega arith)
escape_below (suc n) e x h =
    let p = and_parts _ _ e in
    elim (cases_eq x n) [ inl same ↦ rw same p.0 | inr differs ↦ escape_below n p.1 x (omega arith) ]

all_low : escapes_below 128 ≡ true
unfolding escape_byte
all_low = refl

byte_ends : (x : ℕ) → no_end (escape_byte x) ≡ true
byte_ends x = elim (cases_lt x 128) [
  | inl low ↦ escape_below 128 all_low x low
  | inr high ↦ rw (escape_byte_plain x (λ e. omega arith) (λ e. omega arith) (omega arith)) (other x (λ e. omega arith))
]

escape_ends : (xs : List ℕ) → no_end (escape xs) ≡ true
escape_ends [] = refl
escape_ends (x ∷ xs) = no_end-append (escape_byte x) (escape xs) (byte_ends x) (escape_ends xs)

quoted_ends : (xs : List ℕ) → no_end (quoted xs) ≡ true
quoted_ends xs = then 34 (escape xs ++ 34 ∷ []) refl (no_end-append (escape xs) (34 ∷ []) (escape_ends xs) refl)

-- ---- data

boolean_ends : (b : Bool) → no_end (compact_text (boolean b)) ≡ true
boolean_ends true = refl
boolean_ends false = refl

comma_ends : (b : Bool) → no_end (comma_if b) ≡ true
comma_ends true = refl
comma_ends false = refl

mutual
  data_ends : (d : Data) → IsPlain d → no_end (compact_text d) ≡ true
  data_ends null h = refl
  data_ends (boolean b) h = boolean_ends b
  data_ends (number n) h = number_ends n h
  data_ends (string s) h = quoted_ends s
  data_ends (array ds) h = then 91 (items_text false ds) refl (items_end false ds h)
  data_ends (object ms) h = then 123 (members_text false ms) refl (members_end false ms h)

  items_end : (later : Bool) (ds : Items) → ArePlain ds → no_end (items_text later ds) ≡ true
  items_end later no_items h = refl
  items_end later (item d ds) h =
      no_end-append (comma_if later) (compact_text d ++ items_text true ds) (comma_ends later)
      (no_end-append (compact_text d) (items_text true ds) (data_ends d h.0) (items_end true ds h.1))

  members_end : (later : Bool) (ms : Members) → AreRising ms → no_end (members_text later ms) ≡ true
  members_end later no_members h = refl
  members_end later (member k d ms) h =
      let value : List ℕ = compact_text d ++ members_text true ms in
      no_end-append (comma_if later) (quoted k ++ 58 ∷ value) (comma_ends later)
      (no_end-append (quoted k) (58 ∷ value) (quoted_ends k)
      (then 58 value refl (no_end-append (compact_text d) (members_text true ms) (data_ends d h.0) (members_end true ms h.2))))

-- ---- lines

differ : (xs : List ℕ) → no_end xs ≡ true → AllByRecursion (λ b. b ≢ 10) xs
differ [] h = tt
differ (x ∷ xs) h = let p = and_parts (not (x == 10)) (no_end xs) h in (λ e. grind (arith, nat_tests, e, p.0), differ xs p.1)

text_is_first : (d : Data) → IsPlain d → IsFirstLine (line_text d)
unfolding line_text
text_is_first d plain = (compact_text d, All-from_recursion (λ b. b ≢ 10) (compact_text d) (differ (compact_text d) (data_ends d plain)), refl)

-- a journal's line is a first line, and so is its header
pub line_is_first : (format : Format) (e : Entry) → HasLine e → IsFirstLine (journal_line format e)
line_is_first format e has = text_is_first (entry_value format e) (is_carried format e has).0

pub header_is_first : (seed : List ℕ) (opening : ℕ) → IsHeader seed opening → IsFirstLine (header_line seed opening)
header_is_first seed opening h = text_is_first (header_value seed opening) (headers.is_carried seed opening h).0

same_front : (f g c d : List ℕ) → AllByRecursion (λ b. b ≢ 10) f → AllByRecursion (λ b. b ≢ 10) g → f ++ 10 ∷ c ≡ g ++ 10 ∷ d → f ≡ g
same_front [] [] c d h k e = refl
same_front [] (y ∷ g) c d h k e = absurd (k.0 (sym (ap (λ l. get_or l 0 0) e)))
same_front (x ∷ f) [] c d h k e = absurd (h.0 (ap (λ l. get_or l 0 0) e))
same_front (x ∷ f) (y ∷ g) c d h k e =
    let rest = same_front f g c d h.1 k.1 (ap (drop 1) e) in
    let first : x ≡ y = ap (λ l. get_or l 0 0) e in
    ap (λ l. x ∷ l) rest ∙ ap (λ z. z ∷ g) first

joined : (f c : List ℕ) → (f ++ 10 ∷ []) ++ c ≡ f ++ 10 ∷ c
joined [] c = refl
joined (x ∷ f) c = ap (λ l. x ∷ l) (joined f c)

-- two first lines of a text are the same
pub same_line : (a b c d : List ℕ) → IsFirstLine a → IsFirstLine b → a ++ c ≡ b ++ d → a ≡ b
same_line a b c d (f, h, is) (g, k, at) e =
    let whole : f ++ 10 ∷ c ≡ g ++ 10 ∷ d = sym (joined f c) ∙ ap (λ l. l ++ c) (sym is) ∙ e ∙ ap (λ l. l ++ d) at ∙ joined g d in
    let same = same_front f g c d (recursion_from_All (λ b. b ≢ 10) f h) (recursion_from_All (λ b. b ≢ 10) g k) whole in
    is ∙ ap (λ l. l ++ 10 ∷ []) same ∙ sym at

-- where the first line is none, the text begins with none
pub no_first : (format : Format) (text line rest : List ℕ) → IsFirstLine line → line ++ rest ≡ text → (IsJournalLine format line → ⊥) → BeginsWithLine format text → ⊥
no_first format text line rest first whole none (line', rest', (e, has, is), begins) =
    let same : journal_line format e ≡ line =
    same_line (journal_line format e) line rest' rest (line_is_first format e has) first (ap (λ l. l ++ rest') is ∙ begins ∙ sym whole) in
    none (e, has, same)

pub no_head : (text line rest : List ℕ) → IsFirstLine line → line ++ rest ≡ text
    → ((seed : List ℕ) (opening : ℕ) → IsHeader seed opening → header_line seed opening ≢ line) → BeginsWithHeader text → ⊥
no_head text line rest first whole none (seed, opening, rest', h, begins) =
    none seed opening h (same_line (header_line seed opening) line rest' rest (header_is_first seed opening h) first (begins ∙ sym whole))

ends_in : (f c : List ℕ) → AllByRecursion (λ b. b ≢ 10) (f ++ 10 ∷ c) → ⊥
ends_in [] c h = h.0 refl
ends_in (x ∷ f) c h = ends_in f c h.1

-- where no line ends, it begins with none
no_end_no_first : (text line rest : List ℕ) → HasNoLineEnd text → IsFirstLine line → line ++ rest ≡ text → ⊥
no_end_no_first text line rest none first begins =
    let whole : text ≡ first.0 ++ 10 ∷ rest = sym begins ∙ ap (λ l. l ++ rest) first.2 ∙ joined first.0 rest in
    ends_in first.0 rest (recursion_from_All (λ b. b ≢ 10) (first.0 ++ 10 ∷ rest) (subst HasNoLineEnd whole none))

pub no_end_no_line : (format : Format) (text : List ℕ) → HasNoLineEnd text → BeginsWithLine format text → ⊥
no_end_no_line format text none (line, rest, (e, has, is), begins) =
    no_end_no_first text (journal_line format e) rest none (line_is_first format e has) (ap (λ l. l ++ rest) is ∙ begins)

pub no_end_no_head : (text : List ℕ) → HasNoLineEnd text → BeginsWithHeader text → ⊥
no_end_no_head text none (seed, opening, rest, h, begins) =
    no_end_no_first text (header_line seed opening) rest none (header_is_first seed opening h) begins
