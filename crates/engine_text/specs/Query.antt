-- Truth values of a query (Docker Engine API v1.43, the boolean parameters; own: which texts are false).
use Rattle.std.specs.Prelude.{ℕ, ◌==◌, List, [], ◌∷◌, codes, Bool, ◌||◌, not, if◌then◌else◌}
use Rattle.std.specs.List.{list_all}
use Rattle.engine_text.specs.Texts.{same_letters}

-- a space or a tab
abbrev pub is_blank : ℕ → Bool
is_blank c = (c == 32) || (c == 9)

-- the text without the blanks before it
abbrev pub without_first_blanks : List ℕ → List ℕ
without_first_blanks [] = []
without_first_blanks (c ∷ cs) = if is_blank c then without_first_blanks cs else c ∷ cs

-- the text without the blanks after it
abbrev pub without_last_blanks : List ℕ → List ℕ
without_last_blanks [] = []
without_last_blanks (c ∷ cs) = if list_all is_blank (c ∷ cs) then [] else c ∷ without_last_blanks cs

-- the words that mean false
abbrev pub is_false_word : List ℕ → Bool
is_false_word text =
    same_letters text (codes "") || same_letters text (codes "0") || same_letters text (codes "no")
    || same_letters text (codes "false") || same_letters text (codes "none")

-- true but where the text without outer blanks is such a word, in any ASCII case
abbrev pub query_bool : List ℕ → Bool
query_bool text = not (is_false_word (without_last_blanks (without_first_blanks text)))
