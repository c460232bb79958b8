-- How the words of a command are read (own: options stand before the first other word).
use Rattle.std.specs.Prelude.{ℕ, nat_le, List, [], ◌∷◌, map, filter, count_by, Option, Some, None, Bool, true, option_and_then, option_map, find, if◌then◌else◌}
use Rattle.std.specs.List.{list_all, list_any}
use Rattle.engine_text.specs.Texts.{same_bytes}
use Rattle.engine_text.specs.declared.pairs.Pair.{Pair}
use Rattle.client_model.specs.declared.words.Split.{Split}
use Rattle.client_model.specs.declared.words.Kind.{Kind}
use Rattle.client_model.specs.declared.words.Kind.TheVariants.{Flag, Repeated}

-- ---- other words

-- no word
abbrev pub no_word : {A : Type 0} → A → List (List ℕ) → Option A
no_word command [] = Some command
no_word command (word ∷ words) = None

-- one word
abbrev pub one_word : {A : Type 0} → (List ℕ → A) → List (List ℕ) → Option A
one_word command (word ∷ []) = Some (command word)
one_word command words = None

-- two words
abbrev pub two_words : {A : Type 0} → (List ℕ → List ℕ → A) → List (List ℕ) → Option A
two_words command (word ∷ other ∷ []) = Some (command word other)
two_words command words = None

-- ---- options

-- the options of a command
abbrev pub Options : Type 0
Options = List (List ℕ × Kind)

-- the kind of a word that is an option
abbrev pub kind_of : Options → List ℕ → Option Kind
kind_of options word = option_map (λ o. o.1) (find (λ o. same_bytes o.0 word) options)

-- one option more stands before these
abbrev pub given_first : Pair → Split → Split
given_first pair s = record s { given = pair ∷ s.given }

abbrev pub with_option : List ℕ → List ℕ → Option Split → Option Split
with_option name value split = option_map (given_first (record { key = name; value = value })) split

-- what a word is, by what the words behind it are if it is a flag, and if it waits for its value
abbrev pub split_word : Option Kind → List ℕ → List (List ℕ) → Option Split → Option Split → Option Split
split_word None word words behind_flag behind_name = Some (record { given = []; words = word ∷ words })
split_word (Some Flag) word words behind_flag behind_name = with_option word [] behind_flag
split_word (Some kind) word words behind_flag behind_name = behind_name

-- the options that the words begin with, and the words behind them; an option may wait for its value
abbrev pub split_behind : Options → Option (List ℕ) → List (List ℕ) → Option Split
split_behind options None [] = Some (record { given = []; words = [] })
split_behind options (Some name) [] = None
split_behind options (Some name) (value ∷ words) = with_option name value (split_behind options None words)
split_behind options None (word ∷ words) =
    split_word (kind_of options word) word words (split_behind options None words) (split_behind options (Some word) words)

-- an option that may not be repeated stands there at most once
abbrev pub is_sound_option : List Pair → List ℕ × Kind → Bool
is_sound_option given (name, Repeated) = true
is_sound_option given (name, kind) = nat_le (count_by (λ pair. same_bytes pair.key name) given) 1

abbrev pub if_sound : Options → Split → Option Split
if_sound options split = if list_all (is_sound_option split.given) options then Some split else None

-- the options that the words begin with, none doubled, and the words behind them
abbrev pub split_options : Options → List (List ℕ) → Option Split
split_options options words = option_and_then (if_sound options) (split_behind options None words)

-- what the options and the words behind them ask for
abbrev pub behind_options : {A : Type 0} → Options → (List Pair → List (List ℕ) → Option A) → List (List ℕ) → Option A
behind_options options read words = option_and_then (λ split. read split.given split.words) (split_options options words)

-- ---- what options say

-- the flag stands there
abbrev pub has_flag : List ℕ → List Pair → Bool
has_flag name given = list_any (λ pair. same_bytes pair.key name) given

-- the value of an option, if it stands there
abbrev pub value_of : List ℕ → List Pair → Option (List ℕ)
value_of name given = option_map (λ pair. pair.value) (find (λ pair. same_bytes pair.key name) given)

-- the values of an option that may be repeated, in order
abbrev pub values_of : List ℕ → List Pair → List (List ℕ)
values_of name given = map (λ pair. pair.value) (filter (λ pair. same_bytes pair.key name) given)
