-- The options of the line of `enginelab`, each at most once (own; read as the `clap` crate reads them).
use Rattle.std.specs.Prelude.{ℕ, List, codes, true}
use Rattle.clap.specs.Simple.{App, new_app, with_rule, on_top, matches_of}
use Rattle.clap.specs.Kinds.{Kinds}
use Rattle.clap.specs.Faults.{fault_of}
use Rattle.clap.specs.Walk.{Row}
use Rattle.engine_line.specs.Options.{valued}

-- the words are those after the program's name; `-h`, `--help`, `-V` and `--version` are built in
abbrev pub bare : App
bare = on_top (λ s. record s { no_binary_name = true; has_version = true }) (new_app (codes "enginelab"))

-- the command that reads a line
abbrev pub line_app : App
line_app =
    with_rule (with_rule (with_rule (with_rule (with_rule bare
    (valued (codes "listen"))) (valued (codes "control"))) (valued (codes "clock")))
    (valued (codes "seed"))) (valued (codes "journal"))

-- what is wrong with the words, or asked for in the place of a line, or nothing
unfoldable pub fault_in : List (List ℕ) → Kinds
fault_in words = fault_of line_app words

-- what the words say, by option
unfoldable pub rows_in : List (List ℕ) → List Row
rows_in words = matches_of line_app words
