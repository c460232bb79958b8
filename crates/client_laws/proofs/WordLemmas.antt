-- What a line of texts asks for has texts.
use Rattle.std.proofs.Common.{◌≡◌, ℕ, ◌==◌, ◌<◌, ◌^◌, Bool, true, false, List, [], ◌∷◌, map, filter, get_or, cond, not, codes, IsUtf8, Option, Some, None, refl, arith}
use Rattle.std.specs.Prelude.{IfSome, option_map, find, ⊤}
use Rattle.std.specs.List.{before_first, after_first, position_or_len, list_any, list_all}
use Rattle.std.specs.Str.{IsCharBoundary}
use Rattle.std.proofs.lemmas.Bool.{eqb-true}
use Rattle.std.proofs.lemmas.List.Sums.{passes_at_first, prefix_len-le-length}
use Rattle.std.proofs.lemmas.Str.{IsUtf8-nil, IsUtf8-take}
use Rattle.engine_text.specs.Texts.{same_bytes}
use Rattle.engine_text.specs.declared.pairs.Pair.{Pair}
use Rattle.json_laws.specs.Pairs.{AreWordsUtf8}
use Rattle.api_routes.specs.Numeral.{number_of}
use Rattle.api_routes.proofs.NumeralLemmas.{number-small}
use Rattle.client_model.specs.Words.{no_word, one_word, two_words, Options, kind_of, given_first, with_option, split_word, split_behind, is_sound_option, if_sound, split_options, behind_options, value_of, values_of}
use Rattle.client_model.specs.Commands.Container.{restart_of, read_policy, restart_in, container_with, container_of}
use Rattle.client_model.specs.Commands.Update.{policy_given}
use Rattle.client_model.specs.declared.words.Split.{Split}
use Rattle.client_model.specs.declared.words.Kind.{Kind}
use Rattle.client_model.specs.declared.words.Kind.TheVariants.{Flag, Valued, Repeated}
use Rattle.client_model.specs.declared.command.Restart.{Restart}
use Rattle.client_model.specs.declared.command.Command.{Command}
use Rattle.client_laws.proofs.CommandTexts.{IsRestart, IsContainer, HasTexts}
use Rattle.client_laws.proofs.JsonByteLemmas.{then-good, map-good}

-- what is read of texts has texts
abbrev pub Gives : (List (List ℕ) → Option Command) → Type 0
Gives read = (words : List (List ℕ)) → AreWordsUtf8 words → IfSome (read words) HasTexts

pub gives-none : (c : Command) → HasTexts c → Gives (no_word c)
gives-none c h [] w = h
gives-none c h (word ∷ words) w = tt

pub gives-one : (c : List ℕ → Command) → ((word : List ℕ) → IsUtf8 word → HasTexts (c word)) → Gives (one_word c)
gives-one c h [] w = tt
gives-one c h (word ∷ []) w = h word w.0
gives-one c h (word ∷ other ∷ words) w = tt

pub gives-two : (c : List ℕ → List ℕ → Command) → ((word other : List ℕ) → IsUtf8 word → IsUtf8 other → HasTexts (c word other)) → Gives (two_words c)
gives-two c h [] w = tt
gives-two c h (word ∷ []) w = tt
gives-two c h (word ∷ other ∷ []) w = h word other w.0 w.1.0
gives-two c h (word ∷ other ∷ third ∷ words) w = tt

-- ---- options

-- the values are texts
abbrev pub AreValues : List Pair → Type 0
AreValues [] = ⊤
AreValues (pair ∷ given) = IsUtf8 pair.value × AreValues given

abbrev IsSplit : Split → Type 0
IsSplit s = AreValues s.given × AreWordsUtf8 s.words

with-good : (name value : List ℕ) (split : Option Split) → IsUtf8 value → IfSome split IsSplit → IfSome (with_option name value split) IsSplit
with-good name value split u h =
    map-good IsSplit IsSplit split (given_first (record { key = name; value = value })) h (λ s i. ((u, i.0), i.1))

word-good : (kind : Option Kind) (word : List ℕ) (words : List (List ℕ)) (behind_flag behind_name : Option Split)
    → IsUtf8 word → AreWordsUtf8 words → IfSome behind_flag IsSplit → IfSome behind_name IsSplit
    → IfSome (split_word kind word words behind_flag behind_name) IsSplit
word-good None word words behind_flag behind_name u w f n = (tt, (u, w))
word-good (Some Flag) word words behind_flag behind_name u w f n = with-good word [] behind_flag IsUtf8-nil f
word-good (Some Valued) word words behind_flag behind_name u w f n = n
word-good (Some Repeated) word words behind_flag behind_name u w f n = n

split-good : (options : Options) (name : Option (List ℕ)) (words : List (List ℕ)) → AreWordsUtf8 words → IfSome (split_behind options name words) IsSplit
split-good options None [] w = (tt, tt)
split-good options (Some name) [] w = tt
split-good options (Some name) (value ∷ words) w = with-good name value (split_behind options None words) w.0 (split-good options None words w.1)
split-good options None (word ∷ words) w =
    word-good (kind_of options word) word words (split_behind options None words) (split_behind options (Some word) words) w.0 w.1
    (split-good options None words w.1) (split-good options (Some word) words w.1)

sound-good : (options : Options) (s : Split) → IsSplit s → IfSome (if_sound options s) IsSplit
sound-good options s h = by (list_all (is_sound_option s.given) options)
  where
    by : (b : Bool) → IfSome (cond b (Some s) None) IsSplit
    by true = h
    by false = tt

pub gives-behind : (options : Options) (read : List Pair → List (List ℕ) → Option Command)
    → ((given : List Pair) → AreValues given → Gives (read given)) → Gives (behind_options options read)
gives-behind options read h words w =
    then-good IsSplit HasTexts (split_options options words) (λ s. read s.given s.words)
    (then-good IsSplit IsSplit (split_behind options None words) (if_sound options) (split-good options None words w) (sound-good options))
    (λ s i. h s.given i.0 s.words i.1)

-- the value of an option is a text, and so are those of one that is repeated
pub value-good : (name : List ℕ) (given : List Pair) → AreValues given → IfSome (value_of name given) IsUtf8
value-good name [] h = tt
value-good name (pair ∷ given) h = by (same_bytes pair.key name) (value-good name given h.1)
  where
    by : (b : Bool) → IfSome (value_of name given) IsUtf8 → IfSome (option_map (λ p. p.value) (cond b (Some pair) (find (λ p. same_bytes p.key name) given))) IsUtf8
    by true i = h.0
    by false i = i

pub values-good : (name : List ℕ) (given : List Pair) → AreValues given → AreWordsUtf8 (values_of name given)
values-good name [] h = tt
values-good name (pair ∷ given) h = by (same_bytes pair.key name) (values-good name given h.1)
  where
    by : (b : Bool) → AreWordsUtf8 (values_of name given)
        → AreWordsUtf8 (map (λ p. p.value) (cond b (pair ∷ filter (λ p. same_bytes p.key name) given) (filter (λ p. same_bytes p.key name) given)))
    by true i = (h.0, i)
    by false i = i

-- ---- a container

abbrev is_colon : ℕ → Bool
is_colon b = b == 58

before-good : (word : List ℕ) → IsUtf8 word → IsUtf8 (before_first is_colon word)
before-good word u =
    let place = position_or_len is_colon word in
    let boundary : IsCharBoundary word place = (
      prefix_len-le-length (λ b. not (is_colon b)) word,
      λ inside high.
          let colon : get_or word place 0 ≡ 58 = eqb-true (get_or word place 0) 58 (passes_at_first is_colon word 0 inside) in omega arith,
    ) in
    IsUtf8-take word place u boundary

policy-good : (word : List ℕ) → IsUtf8 word → IfSome (read_policy word) IsRestart
policy-good word u = by (list_any is_colon word)
  where
    by : (b : Bool) → IfSome (cond b (option_map (restart_of (before_first is_colon word)) (number_of 10 (after_first is_colon word))) (Some (restart_of word 0))) IsRestart
    by true =
        map-good (λ n. n < 10 ^ 10) IsRestart (number_of 10 (after_first is_colon word)) (restart_of (before_first is_colon word))
        (number-small 10 (after_first is_colon word) (number_of 10 (after_first is_colon word)) refl) (λ n few. (before-good word u, few))
    by false = (u, omega arith)

abbrev IsPolicy : Option Restart → Type 0
IsPolicy restart = IfSome restart IsRestart

-- the policy that is needed
pub given-policy-good : (given : List Pair) → AreValues given → IfSome (policy_given given) IsRestart
given-policy-good given h =
    then-good IsUtf8 IsRestart (value_of (codes "--restart") given) read_policy (value-good (codes "--restart") given h) policy-good

restart-good : (word : Option (List ℕ)) → IfSome word IsUtf8 → IfSome (restart_in word) IsPolicy
restart-good None h = tt
restart-good (Some word) h = map-good IsRestart IsPolicy (read_policy word) Some (policy-good word h) (λ r i. i)

pub container-good : (given : List Pair) (words : List (List ℕ)) → AreValues given → AreWordsUtf8 words → IfSome (container_of given words) IsContainer
container-good given [] h w = tt
container-good given (image ∷ words) h w =
    map-good IsPolicy IsContainer (restart_in (value_of (codes "--restart") given)) (λ restart. container_with given restart image words)
    (restart-good (value_of (codes "--restart") given) (value-good (codes "--restart") given h))
    (λ restart i. (value-good (codes "--name") given h, i, values-good (codes "-v") given h, w.0, w.1))
