-- The options of the line of `engined`, each at most once (own; read as the `clap` crate reads them).
use Rattle.std.specs.Prelude.{ℕ, List, codes, true, Option, Some, find, slice_get, option_and_then}
use Rattle.std.specs.Str.{bytes_eq}
use Rattle.clap.specs.Simple.{App, new_app, new_rule, with_rule, on_top, matches_of}
use Rattle.clap.specs.Kinds.{Kinds}
use Rattle.clap.specs.Faults.{fault_of}
use Rattle.clap.specs.Walk.{Rule, Row}
use Rattle.clap.specs.declared.builder.action.ArgAction.TheVariants.{Set, SetTrue}

-- an option with a value, and a flag
abbrev pub valued : List ℕ → Rule
valued name = record (new_rule name) { long = Some name; action = Some Set }

abbrev pub flag : List ℕ → Rule
flag name = record (new_rule name) { long = Some name; action = Some SetTrue }

-- the words are those after the program's name, and no help is built in
abbrev pub bare : App
bare = on_top (λ s. record s { no_binary_name = true; disable_help_flag = true }) (new_app (codes "engined"))

-- the command that reads a line
abbrev pub line_app : App
line_app =
    with_rule (with_rule (with_rule (with_rule (with_rule (with_rule (with_rule bare
    (flag (codes "stdio"))) (valued (codes "listen"))) (valued (codes "drill"))) (valued (codes "seed")))
    (valued (codes "clock"))) (valued (codes "connections"))) (valued (codes "journal"))

-- what is wrong with the words, or nothing
unfoldable pub fault_in : List (List ℕ) → Kinds
fault_in words = fault_of line_app words

-- what the words say, by option
unfoldable pub rows_in : List (List ℕ) → List Row
rows_in words = matches_of line_app words

-- the first value of an option
abbrev pub value_in : List Row → List ℕ → Option (List ℕ)
value_in rows name = option_and_then (λ r. slice_get r.values 0) (find (λ r. bytes_eq r.id name) rows)
