-- Words between blanks.
use Rattle.std.proofs.Common.{◌≡◌, ◌==◌, ◌≤◌, ◌<◌, ◌+◌, ℕ, suc, List, [], ◌∷◌, ◌++◌, length, take, drop, get_or, filter, Bool, true, false, not, ◌||◌, nat_lt, cond, if◌then◌else◌, Option, Some, None, refl, sym, ap, ◌∙◌, append_assoc, arith}
use Rattle.std.specs.List.{slice_split, onto_first, prefix_len, position, position_or_len, before_first, after_first}
use Rattle.std.proofs.lemmas.Bool.{eqb-true, ltb-true, ltb-false}
use Rattle.std.proofs.lemmas.List.{append-nil}
use Rattle.std.proofs.lemmas.List.Quantifiers.{position-Some}
use Rattle.std.proofs.lemmas.List.Splits.{slice_split_first}
use Rattle.engine_text.specs.Query.{is_blank}
use Rattle.engine_text.specs.Soundness.{is_full}
use Rattle.api_json.specs.Health.{between_blanks, split_blank, if_word}

-- ---- the first blank

-- a blank is ASCII
low : (c : ℕ) → is_blank c ≡ true → c < 128
low c e = by (c == 32) refl e
  where
    by : (b : Bool) → (c == 32) ≡ b → (b || (c == 9)) ≡ true → c < 128
    by true h e = let is : c ≡ 32 = eqb-true c 32 h in omega (arith, is)
    by false h e = let is : c ≡ 9 = eqb-true c 9 e in omega (arith, is)

pub blank_low : (text : List ℕ) (i : ℕ) → position is_blank text ≡ Some i → (i < length text) × (get_or text i 0 < 128)
blank_low text i e = let h = position-Some is_blank text i 0 e in (h.0, low (get_or text i 0) h.1)

-- the parts round that place
abbrev pub cut_at : List ℕ → ℕ → Option (List ℕ × List ℕ)
cut_at text i = Some (take i text, drop (i + 1) text)

pub at_blank : (text : List ℕ) (i : ℕ) → position is_blank text ≡ Some i → split_blank text ≡ cut_at text i
at_blank text i e = by (nat_lt (position_or_len is_blank text) (length text)) e
  where
    by : (inside : Bool) → cond inside (Some (position_or_len is_blank text)) None ≡ Some i → (if inside then cut_at text (position_or_len is_blank text) else None) ≡ cut_at text i
    by true e = let is : position_or_len is_blank text ≡ i = cc in ap (cut_at text) is
    by false e = absurd (cc)

pub no_blank : (text : List ℕ) → position is_blank text ≡ None → split_blank text ≡ None
no_blank text e = by (nat_lt (position_or_len is_blank text) (length text)) e
  where
    by : (inside : Bool) → cond inside (Some (position_or_len is_blank text)) None ≡ None → (if inside then cut_at text (position_or_len is_blank text) else None) ≡ None
    by true e = absurd (cc)
    by false e = refl

-- ---- the words

-- a text without a blank is one part
split_none : (text : List ℕ) → length text ≤ position_or_len is_blank text → slice_split is_blank text ≡ text ∷ []
split_none [] h = refl
split_none (byte ∷ bytes) h = by (is_blank byte) (split_none bytes) h
  where
    by : (blank : Bool) → (length bytes ≤ position_or_len is_blank bytes → slice_split is_blank bytes ≡ bytes ∷ [])
        → suc (length bytes) ≤ cond (not blank) (1 + prefix_len (λ b. not (is_blank b)) bytes) 0
        → cond blank ([] ∷ slice_split is_blank bytes) (onto_first byte (slice_split is_blank bytes)) ≡ (byte ∷ bytes) ∷ []
    by true rest h = absurd (omega arith)
    by false rest h = ap (onto_first byte) (rest (omega arith))

-- an empty part isn't kept
kept : (word : List ℕ) (words : List (List ℕ)) → filter is_full (word ∷ words) ≡ if_word word ++ filter is_full words
kept [] words = refl
kept (byte ∷ bytes) words = refl

-- the words of the parts round the first blank
abbrev pub by_parts : List ℕ → Option (List ℕ × List ℕ) → List (List ℕ)
by_parts text None = if_word text
by_parts text (Some parts) = if_word parts.0 ++ between_blanks parts.1

words_cut : (text : List ℕ) → between_blanks text ≡ by_parts text (split_blank text)
words_cut text = by (nat_lt (position_or_len is_blank text) (length text)) refl
  where
    by : (inside : Bool) → nat_lt (position_or_len is_blank text) (length text) ≡ inside
        → between_blanks text ≡ by_parts text (if inside then cut_at text (position_or_len is_blank text) else None)
    by true e =
        ap (filter is_full) (slice_split_first is_blank text 0 (ltb-true _ _ e))
        ∙ kept (before_first is_blank text) (slice_split is_blank (after_first is_blank text))
    by false e = ap (filter is_full) (split_none text (ltb-false _ _ e)) ∙ kept text [] ∙ append-nil (if_word text)

-- a word more is kept
pub more_cut : (words now : List (List ℕ)) (left word rest text : List ℕ) → now ≡ words ++ if_word word → ◌≡◌ {A = Option (List ℕ × List ℕ)} (Some (word, rest)) (split_blank left)
    → words ++ between_blanks left ≡ between_blanks text → now ++ between_blanks rest ≡ between_blanks text
more_cut words now left word rest text put is so =
    ap (λ l. l ++ between_blanks rest) put
    ∙ append_assoc words (if_word word) (between_blanks rest)
    ∙ ap (λ l. words ++ l) (sym (words_cut left ∙ ap (by_parts left) (sym is)))
    ∙ so

-- the last word is kept
pub all_cut : (words now : List (List ℕ)) (left text : List ℕ) → now ≡ words ++ if_word left → None ≡ split_blank left
    → words ++ between_blanks left ≡ between_blanks text → now ≡ between_blanks text
all_cut words now left text put is so =
    put ∙ ap (λ l. words ++ l) (sym (words_cut left ∙ ap (by_parts left) (sym is))) ∙ so
