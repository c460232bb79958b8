-- The line of `engineone`: its words in a fixed order, with the values of the line of `engined` (own).
use Rattle.std.specs.Prelude.{ℕ, List, [], ◌∷◌, Option, Some, None, Bool, true, false, if◌then◌else◌, codes, option_and_then}
use Rattle.std.specs.Option.{option_map}
use Rattle.std.specs.Str.{bytes_eq}
use Rattle.engine_line.specs.Lines.{clock_of, connections_of, entries_of, port_in, seed_of}
use Rattle.engine_line.specs.declared.line.Beginning.{Beginning}
use Rattle.engine_line.specs.declared.line.Beginning.TheVariants.{New, Reboot}
use Rattle.engine_line.specs.declared.line.OneLine.{OneLine}

-- the value of an option, where it stands next, and the words behind it
abbrev pub option_next : List ℕ → List (List ℕ) → Option (List ℕ) × List (List ℕ)
option_next name (word ∷ value ∷ rest) = if bytes_eq word name then (Some value, rest) else (None, word ∷ value ∷ rest)
option_next name words = (None, words)

-- whether a flag stands next, and the words behind it
abbrev pub flag_next : List ℕ → List (List ℕ) → Bool × List (List ℕ)
flag_next name (word ∷ rest) = if bytes_eq word name then (true, rest) else (false, word ∷ rest)
flag_next name [] = (false, [])

-- the daemon begins new, with its seed of ids; or with a written history, beside which no seed is set
abbrev pub beginning_of : Option (List ℕ) → Bool → Option Beginning
beginning_of seed false = option_map New (seed_of seed)
beginning_of None true = Some Reboot
beginning_of (Some word) true = None

-- what the values ask for, where each has its form, and no word stands behind them
abbrev pub line_with : List ℕ → Option (List ℕ) → Option (List ℕ) → Option (List ℕ) → Option (List ℕ) → Bool → List (List ℕ) → Option OneLine
line_with addr seed clock connections journal reboot [] =
    option_and_then (λ port. option_and_then (λ beginning. option_and_then (λ clock.
    option_and_then (λ connections. option_and_then (λ entries.
    Some (record { port = port; beginning = beginning; clock = clock; connections = connections; entries = entries }))
    (entries_of journal))
    (connections_of connections))
    (clock_of clock))
    (beginning_of seed reboot))
    (port_in addr)
line_with addr seed clock connections journal reboot (word ∷ words) = None

-- what the words after the program's name ask for, if they are a line:
-- ADDR [--seed HEX] [--clock START:STEP] [--connections N] [--journal N] [--reboot]
abbrev pub one_line_of : List (List ℕ) → Option OneLine
one_line_of [] = None
one_line_of (addr ∷ words) =
    let seed = option_next (codes "--seed") words in
    let clock = option_next (codes "--clock") seed.1 in
    let connections = option_next (codes "--connections") clock.1 in
    let journal = option_next (codes "--journal") connections.1 in
    let reboot = flag_next (codes "--reboot") journal.1 in
    line_with addr seed.0 clock.0 connections.0 journal.0 reboot.0 reboot.1
