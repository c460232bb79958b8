-- How lines are written, told where words are none (own).
use Rattle.std.specs.Prelude.{ℕ, List, ◌∷◌, ◌++◌, codes, find}
use Rattle.std.specs.List.{join_with_byte}
use Rattle.std.specs.Option.{option_map_or}
use Rattle.engine_text.specs.Texts.{same_bytes}
use Rattle.client_model.specs.Lines.{command_names, usages}

-- what stands there of any command
abbrev pub any_usage : List ℕ
any_usage = join_with_byte 124 command_names ++ codes " [OPTIONS] [WORD..]"

-- of the command of this name among these, or of any where none of them has it
abbrev pub usage_among : List (List ℕ × List ℕ) → List ℕ → List ℕ
usage_among rows name = option_map_or (λ row. row.1) (find (λ row. same_bytes name row.0) rows) any_usage

-- of the command of this name
abbrev pub usage_of : List ℕ → List ℕ
usage_of name = usage_among usages name

-- of the command that the second word names
abbrev pub usage_for : List (List ℕ) → List ℕ
usage_for (address ∷ name ∷ words) = usage_of name
usage_for words = any_usage

-- the usage line of these words, with what ADDR is
abbrev pub usage_line : List (List ℕ) → List ℕ
usage_line words = codes "usage: dockc ADDR " ++ usage_for words ++ codes " (ADDR is 127.0.0.1:PORT)\n"
