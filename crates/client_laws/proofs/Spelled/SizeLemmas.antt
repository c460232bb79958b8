-- How long the text of a body is: each byte of a text takes at most six.
use Rattle.std.proofs.Common.{ℕ, ◌+◌, ◌*◌, ◌/◌, ◌%◌, ◌≤◌, ◌++◌, List, [], ◌∷◌, length, Bool, true, false, cond, arith, length-append}
use Rattle.std.specs.Prelude.{nat_lt}
use Rattle.std.specs.Char.{digit_char}
use Rattle.json.specs.Print.{escape_byte, escape_letter, quoted}
use Rattle.serde_json.specs.Data.{boolean}
use Rattle.serde_json.specs.Written.{compact_text, items_text, comma_if}
use Rattle.json_laws.specs.Pairs.{words_data, words_items}
use Rattle.client_laws.proofs.Spelled.TargetLemmas.{length-flat_map}

escapes : (short control : Bool) (x letter high low : ℕ)
    → length (cond short (92 ∷ letter ∷ []) (cond control (92 ∷ 117 ∷ 48 ∷ 48 ∷ high ∷ low ∷ []) (x ∷ []))) ≤ 6
escapes true control x letter high low = omega arith
escapes false true x letter high low = omega arith
escapes false false x letter high low = omega arith

length_escape : (b : ℕ) → length (escape_byte b) ≤ 6
unfolding escape_byte
length_escape b = escapes (nat_lt 0 (escape_letter b)) (nat_lt b 32) b (escape_letter b) (digit_char (b / 16)) (digit_char (b % 16))

pub length_quoted : (text : List ℕ) → length (quoted text) ≤ 6 * length text + 2
length_quoted text = simp length-append (omega (arith, length-flat_map 6 escape_byte text length_escape))

pub length_boolean : (b : Bool) → length (compact_text (boolean b)) ≤ 5
length_boolean true = omega arith
length_boolean false = omega arith

-- the bytes of words, with one more for each
abbrev pub words_size : List (List ℕ) → ℕ
words_size [] = 0
words_size (word ∷ words) = length word + 1 + words_size words

pub length_comma : (later : Bool) → length (comma_if later) ≤ 1
length_comma true = omega arith
length_comma false = omega arith

length_items : (later : Bool) (words : List (List ℕ)) → length (items_text later (words_items words)) ≤ 6 * words_size words + 1
length_items later [] = omega arith
length_items later (word ∷ words) =
    omega (
      arith,
      length-append (comma_if later) (quoted word ++ items_text true (words_items words)),
      length-append (quoted word) (items_text true (words_items words)),
      length_comma later,
      length_quoted word,
      length_items true words,
    )

pub length_words : (words : List (List ℕ)) → length (compact_text (words_data words)) ≤ 6 * words_size words + 2
length_words words = omega (arith, length_items false words)
