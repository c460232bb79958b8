-- What the options of words and the words behind them are of: no more bytes than the words have.
use Rattle.std.proofs.Common.{ℕ, ◌+◌, ◌≤◌, List, [], ◌∷◌, length, map, Option, Some, None, arith}
use Rattle.std.specs.Prelude.{filter, find, option_map, option_and_then}
use Rattle.std.specs.Option.{IfSome}
use Rattle.std.specs.List.{list_all}
use Rattle.std.proofs.lemmas.Bool.{cond_both}
use Rattle.std.proofs.lemmas.Option.{IfSome_then}
use Rattle.engine_text.specs.Texts.{same_bytes}
use Rattle.engine_text.specs.declared.pairs.Pair.{Pair}
use Rattle.client_model.specs.declared.words.Split.{Split}
use Rattle.client_model.specs.declared.words.Kind.{Kind}
use Rattle.client_model.specs.declared.words.Kind.TheVariants.{Flag, Valued, Repeated}
use Rattle.client_model.specs.Words.{Options, kind_of, with_option, given_first, split_word, split_behind, is_sound_option, if_sound, split_options, behind_options, value_of, values_of}
use Rattle.client_laws.proofs.Spelled.SizeLemmas.{words_size}

-- ---- options

pub IfSome-map : {A B : Type 0} (P : B → Type 0) (f : A → B) (o : Option A) → IfSome o (λ x. P (f x)) → IfSome (option_map f o) P
IfSome-map P f None is = tt
IfSome-map P f (Some x) is = is

pub IfSome-and_then : {A B : Type 0} (P : B → Type 0) (f : A → Option B) (o : Option A) → IfSome o (λ x. IfSome (f x) P) → IfSome (option_and_then f o) P
IfSome-and_then P f None is = tt
IfSome-and_then P f (Some x) is = is

-- what is true of each is true of one that is some
pub IfSome-each : {A : Type 0} (P : A → Type 0) (o : Option A) → ((x : A) → P x) → IfSome o P
IfSome-each P None each = tt
IfSome-each P (Some x) each = each x

-- ---- options among words

-- the bytes of the values of options, with one more for each
abbrev pub given_size : List Pair → ℕ
given_size [] = 0
given_size (pair ∷ given) = length pair.value + 1 + given_size given

abbrev pub split_size : Split → ℕ
split_size split = given_size split.given + words_size split.words

-- a split is of no more bytes than these
abbrev Within : ℕ → Split → Type 0
Within n split = split_size split ≤ n

more : (m n : ℕ) (o : Option Split) → m ≤ n → IfSome o (Within m) → IfSome o (Within n)
more m n o le is = IfSome_then o is (λ s within. omega arith)

with_more : (name value : List ℕ) (n : ℕ) (o : Option Split) → IfSome o (Within n) → IfSome (with_option name value o) (Within (length value + 1 + n))
with_more name value n o is =
    IfSome-map (Within (length value + 1 + n)) (given_first (record { key = name; value = value })) o (IfSome_then o is (λ s within. omega arith))

by_kind : (kind : Option Kind) (word : List ℕ) (words : List (List ℕ)) (flag name : Option Split)
    → IfSome flag (Within (words_size words)) → IfSome name (Within (words_size words))
    → IfSome (split_word kind word words flag name) (Within (words_size (word ∷ words)))
by_kind None word words flag name is_flag is_name = omega arith
by_kind (Some Flag) word words flag name is_flag is_name =
    more (length {A = ℕ} [] + 1 + words_size words) (words_size (word ∷ words)) _ (omega arith) (with_more word [] (words_size words) flag is_flag)
by_kind (Some Valued) word words flag name is_flag is_name = more (words_size words) (words_size (word ∷ words)) name (omega arith) is_name
by_kind (Some Repeated) word words flag name is_flag is_name = more (words_size words) (words_size (word ∷ words)) name (omega arith) is_name

split_within : (options : Options) (waiting : Option (List ℕ)) (words : List (List ℕ)) → IfSome (split_behind options waiting words) (Within (words_size words))
split_within options None [] = omega arith
split_within options (Some name) [] = tt
split_within options (Some name) (value ∷ words) = with_more name value (words_size words) (split_behind options None words) (split_within options None words)
split_within options None (word ∷ words) =
    by_kind (kind_of options word) word words (split_behind options None words) (split_behind options (Some word) words)
    (split_within options None words) (split_within options (Some word) words)

sound_within : (options : Options) (n : ℕ) (split : Split) → Within n split → IfSome (if_sound options split) (Within n)
sound_within options n split within =
    cond_both (list_all (is_sound_option split.given) options) (Some split) None (λ o. IfSome o (Within n)) (λ sound. within) (λ other. tt)

-- what is read of options and words is true of no more bytes than these
pub behind_within : {A : Type 0} (P : A → Type 0) (options : Options) (read : List Pair → List (List ℕ) → Option A) (n : ℕ)
    → ((given : List Pair) (words : List (List ℕ)) → given_size given + words_size words ≤ n → IfSome (read given words) P)
    → (words : List (List ℕ)) → words_size words ≤ n → IfSome (behind_options options read words) P
behind_within P options read n each words le =
    let splits = more (words_size words) n (split_behind options None words) le (split_within options None words) in
    let sound = IfSome-and_then (Within n) (if_sound options) (split_behind options None words) (IfSome_then (split_behind options None words) splits (sound_within options n)) in
    IfSome-and_then P (λ split. read split.given split.words) (split_options options words)
    (IfSome_then (split_options options words) sound (λ split within. each split.given split.words within))

-- ---- values

-- the bytes of a value that may be given
abbrev pub value_size : Option (List ℕ) → ℕ
value_size None = 0
value_size (Some value) = length value + 1

pub length_value : (name : List ℕ) (given : List Pair) → value_size (value_of name given) ≤ given_size given
length_value name [] = omega arith
length_value name (pair ∷ given) =
    cond_both (same_bytes pair.key name) (Some pair) (find (λ p. same_bytes p.key name) given)
    (λ o. value_size (option_map (λ (p : Pair). p.value) o) ≤ given_size (pair ∷ given)) (λ same. omega arith) (λ other. omega (arith, length_value name given))

pub length_values : (name : List ℕ) (given : List Pair) → words_size (values_of name given) ≤ given_size given
length_values name [] = omega arith
length_values name (pair ∷ given) =
    cond_both (same_bytes pair.key name) (pair ∷ filter (λ p. same_bytes p.key name) given) (filter (λ p. same_bytes p.key name) given)
    (λ ps. words_size (map (λ (p : Pair). p.value) ps) ≤ given_size (pair ∷ given)) (λ same. omega (arith, length_values name given)) (λ other. omega (arith, length_values name given))
