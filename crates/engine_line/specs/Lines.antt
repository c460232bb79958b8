-- The line of `engined`: the forms of its values, and what a line asks for (own).
use Rattle.std.specs.Prelude.{ℕ, ◌==◌, ◌&&◌, nat_le, List, [], ◌∷◌, Option, Some, None, Bool, true, false, if◌then◌else◌, codes, replicate, option_and_then}
use Rattle.std.specs.List.{before_first, after_first}
use Rattle.std.specs.Option.{option_map}
use Rattle.std.specs.Result.{result_ok}
use Rattle.std.specs.Str.{bytes_eq}
use Rattle.clap.specs.Kinds.{Kinds}
use Rattle.clap.specs.Walk.{Row}
use Rattle.hex.specs.Hex.{decode_sized}
use Rattle.api_routes.specs.Numeral.{number_of}
use Rattle.engine_line.specs.Options.{fault_in, rows_in, value_in}
use Rattle.engine_line.specs.declared.line.Stepping.{Stepping}
use Rattle.engine_line.specs.declared.line.Line.{Line}
use Rattle.engine_line.specs.declared.line.Work.{Work}
use Rattle.engine_line.specs.declared.line.Work.TheVariants.{Stdio, Listen, Drill}

-- ---- values

-- a number from `least` to `most`
abbrev pub if_between : ℕ → ℕ → Option ℕ → Option ℕ
if_between least most None = None
if_between least most (Some n) = if nat_le least n && nat_le n most then Some n else None

-- one to so many digits, of a value from `least` to `most`
abbrev pub number_between : ℕ → ℕ → ℕ → List ℕ → Option ℕ
number_between digits least most word = if_between least most (number_of digits word)

-- START:STEP, both at most the greatest moment; without a colon nothing is behind it
abbrev pub moment_in : List ℕ → Option ℕ
moment_in = number_between 13 0 9_000_000_000_000

abbrev pub stepping_of : Option ℕ → Option ℕ → Option Stepping
stepping_of (Some start) (Some step) = Some (record { start = start; step = step })
stepping_of start step = None

abbrev pub stepping_in : List ℕ → Option Stepping
stepping_in word =
    stepping_of (moment_in (before_first (λ b. b == 58) word)) (moment_in (after_first (λ b. b == 58) word))

-- 127.0.0.1:PORT, of the one address that is listened on
abbrev pub port_in : List ℕ → Option ℕ
port_in word =
    if bytes_eq (before_first (λ b. b == 58) word) (codes "127.0.0.1")
    then number_between 5 0 65535 (after_first (λ b. b == 58) word) else None

-- ---- options

-- exactly one of the three kinds of work
abbrev pub work_of : Bool → Option (List ℕ) → Option (List ℕ) → Option Work
work_of true None None = Some Stdio
work_of false (Some addr) None = option_map Listen (port_in addr)
work_of false None (Some count) = option_map Drill (number_between 8 1 100_000 count)
work_of stdio listen drill = None

-- 64 hexadecimal digits; all zeros without the option
abbrev pub seed_of : Option (List ℕ) → Option (List ℕ)
seed_of None = Some (replicate 32 0)
seed_of (Some word) = result_ok (decode_sized word 32)

abbrev pub clock_of : Option (List ℕ) → Option (Option Stepping)
clock_of None = Some None
clock_of (Some word) = option_map Some (stepping_in word)

abbrev pub connections_of : Option (List ℕ) → Option (Option ℕ)
connections_of None = Some None
connections_of (Some word) = option_map Some (number_between 8 1 99_999_999 word)

-- 4,194,304 without the option
abbrev pub entries_of : Option (List ℕ) → Option ℕ
entries_of None = Some 4_194_304
entries_of (Some word) = number_between 8 1 16_777_216 word

-- ---- the line

-- `--stdio` stands among the words
abbrev pub is_stdio : Option (List ℕ) → Bool
is_stdio None = false
is_stdio (Some word) = bytes_eq word (codes "true")

-- what the options ask for, where each has its form
abbrev pub line_in : List Row → Option Line
line_in rows =
    option_and_then (λ work. option_and_then (λ seed. option_and_then (λ clock.
    option_and_then (λ connections. option_and_then (λ entries.
    Some (record { work = work; seed = seed; clock = clock; connections = connections; entries = entries }))
    (entries_of (value_in rows (codes "journal"))))
    (connections_of (value_in rows (codes "connections"))))
    (clock_of (value_in rows (codes "clock"))))
    (seed_of (value_in rows (codes "seed"))))
    (work_of (is_stdio (value_in rows (codes "stdio"))) (value_in rows (codes "listen")) (value_in rows (codes "drill")))

abbrev pub line_by : Kinds → List Row → Option Line
line_by [] rows = line_in rows
line_by (kind ∷ kinds) rows = None

-- what the words after the program's name ask for, if they are a line
abbrev pub line_of : List (List ℕ) → Option Line
line_of words = line_by (fault_in words) (rows_in words)
