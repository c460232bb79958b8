-- The line of `enginelab`: the forms of its values, and what a line asks for (own).
use Rattle.std.specs.Prelude.{ℕ, ◌≡◌, ◌==◌, List, [], ◌∷◌, Option, Some, None, Result, Ok, Err, ok_or, if◌then◌else◌, codes}
use Rattle.std.specs.List.{before_first, after_first}
use Rattle.std.specs.Option.{option_map}
use Rattle.std.specs.Str.{bytes_eq}
use Rattle.clap.specs.Kinds.{Kinds, IsAmong}
use Rattle.clap.specs.Walk.{Row}
use Rattle.clap.specs.declared.error.kind.ErrorKind.{ErrorKind}
use Rattle.clap.specs.declared.error.kind.ErrorKind.TheVariants as kind
use Rattle.engine_line.specs.Lines.{number_between, moment_in, stepping_of, port_in, seed_of}
use Rattle.engine_line.specs.Options.{value_in}
use Rattle.lab_line.specs.Options.{fault_in, rows_in}
use Rattle.lab_line.specs.declared.line.LabClock.{LabClock}
use Rattle.lab_line.specs.declared.line.LabClock.TheVariants.{System, Hand, Steps}
use Rattle.lab_line.specs.declared.line.Lab.{Lab}
use Rattle.lab_line.specs.declared.line.Wrong.{Wrong}
use Rattle.lab_line.specs.declared.line.Wrong.TheVariants as wrong
use Rattle.lab_line.specs.declared.line.Asked.{Asked}
use Rattle.lab_line.specs.declared.line.Asked.TheVariants as asked

-- ---- values

-- 127.0.0.1:PORT; without the option 0, which is a free one
abbrev pub port_of : Wrong → Option (List ℕ) → Result ℕ Wrong
port_of wrong None = Ok 0
port_of wrong (Some word) = ok_or (port_in word) wrong

-- START:STEP, both at most the greatest moment
abbrev pub steps_in : List ℕ → List ℕ → Option LabClock
steps_in start step = option_map Steps (stepping_of (moment_in start) (moment_in step))

-- hand:START or START:STEP; without a colon nothing is behind it
abbrev pub clock_in : List ℕ → Option LabClock
clock_in word =
    let before : List ℕ = before_first (λ b. b == 58) word in
    let behind : List ℕ = after_first (λ b. b == 58) word in
    if bytes_eq before (codes "hand") then option_map Hand (moment_in behind) else steps_in before behind

-- the system's without the option
abbrev pub clock_of : Option (List ℕ) → Result LabClock Wrong
clock_of None = Ok System
clock_of (Some word) = ok_or (clock_in word) wrong.Clock

-- 64 hexadecimal digits; all zeros without the option
abbrev pub seed_in : Option (List ℕ) → Result (List ℕ) Wrong
seed_in word = ok_or (seed_of word) wrong.Seed

-- one to eight digits, from 1 to 16,777,216; 4,194,304 without the option
abbrev pub entries_in : List ℕ → Option ℕ
entries_in = number_between 8 1 16_777_216

abbrev pub entries_of : Option (List ℕ) → Result ℕ Wrong
entries_of None = Ok 4_194_304
entries_of (Some word) = ok_or (entries_in word) wrong.Journal

-- ---- the line

-- goes on with a value, or keeps what is wrong
abbrev pub and_then : {A B : Type 0} → Result A Wrong → (A → Result B Wrong) → Result B Wrong
and_then (Ok x) next = next x
and_then (Err wrong) next = Err wrong

-- what the options ask for; of several values without their form the first of the list is told
abbrev pub line_in : List Row → Result Lab Wrong
line_in rows =
    and_then (port_of wrong.Listen (value_in rows (codes "listen"))) (λ listen.
    and_then (port_of wrong.Control (value_in rows (codes "control"))) (λ control.
    and_then (clock_of (value_in rows (codes "clock"))) (λ clock.
    and_then (seed_in (value_in rows (codes "seed"))) (λ seed.
    and_then (entries_of (value_in rows (codes "journal"))) (λ entries.
    Ok (record { listen = listen; control = control; clock = clock; seed = seed; entries = entries }))))))

-- what they come to
abbrev pub asked_in : Result Lab Wrong → Asked
asked_in (Ok lab) = asked.Line lab
asked_in (Err wrong) = asked.Wrong wrong

-- what words come to in which clap finds a fault, or a request, of this kind
abbrev pub asked_by : ErrorKind → Asked
asked_by kind.DisplayHelp = asked.Help
asked_by kind.DisplayVersion = asked.Version
asked_by other = asked.Wrong (wrong.Words other)

-- what words come to by the kinds that clap finds, and by the options that it reads where it finds none
abbrev pub ComeTo : Kinds → List Row → Asked → Type 0
ComeTo [] rows asked = asked ≡ asked_in (line_in rows)
ComeTo (kind ∷ kinds) rows asked = (k : ErrorKind) × IsAmong k (kind ∷ kinds) × (asked ≡ asked_by k)

-- what the words after the program's name come to
abbrev pub WordsAsk : List (List ℕ) → Asked → Type 0
WordsAsk words asked = ComeTo (fault_in words) (rows_in words) asked
