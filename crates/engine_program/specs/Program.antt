-- What running `engined` says, by the words after the program's name (own).
use Rattle.std.specs.Prelude.{ℕ, ◌≡◌, ◌⊎◌, List, Option, Some, None, codes}
use Rattle.engine_ports.specs.Door.{Outside, DoorView}
use Rattle.engine_line.specs.Lines.{line_of}
use Rattle.engine_line.specs.declared.line.Line.{Line}
use Rattle.engine_line.specs.declared.line.Work.{Work}
use Rattle.engine_line.specs.declared.line.Work.TheVariants.{Stdio, Listen, Drill}
use Rattle.session_model.specs.declared.ending.Worst.TheVariants.{NoMemory}
use Rattle.program_parts.specs.Statuses.{status_by}
use Rattle.program_parts.specs.Telling.{TellsUsage}
use Rattle.engine_program.specs.Running.{RunsSession}
use Rattle.engine_program.specs.Listening.{ListenSays}
use Rattle.engine_program.specs.Drilling.{DrillSays}

-- what is written where the words aren't a line
abbrev pub usage_line : List ℕ
usage_line = codes "usage: engined --stdio | --listen ADDR | --drill N [--seed HEX] [--clock START:STEP] [--connections N] [--journal N]\n"

-- how it is used is told, nothing is read, and the clock isn't asked
abbrev pub OnlyTells : List ℕ → ℕ → Outside → Outside → Type 0
OnlyTells usage status o o' =
    TellsUsage usage status o.sink o'.sink × (o'.source ≡ o.source) × (o'.clock ≡ o.clock)

-- a line that listens takes connections in at its ADDR; for every other, and for no line, the door is as before
abbrev pub RunsWork : Work → Line → ℕ → Outside → Outside → DoorView → DoorView → Type 0
RunsWork Stdio line status o o' d d' = RunsSession line status o o' × (d' ≡ d)
RunsWork (Listen port) line status o o' d d' = ListenSays port line status o o' d d'
RunsWork (Drill requests) line status o o' d d' = DrillSays requests line status o o' × (d' ≡ d)

abbrev pub RunsLine : Option Line → ℕ → Outside → Outside → DoorView → DoorView → Type 0
RunsLine None status o o' d d' = OnlyTells usage_line status o o' × (d' ≡ d)
RunsLine (Some line) status o o' d d' = RunsWork line.work line status o o' d d'

-- memory was refused for the line or the address: nothing is read, written, asked or bound
abbrev pub WantsMemory : ℕ → Outside → Outside → DoorView → DoorView → Type 0
WantsMemory status o o' d d' = (status ≡ status_by NoMemory) × (o' ≡ o) × (d' ≡ d)

abbrev pub RunsProgram : List (List ℕ) → ℕ → Outside → Outside → DoorView → DoorView → Type 0
RunsProgram words status o o' d d' =
    WantsMemory status o o' d d' ⊎ RunsLine (line_of words) status o o' d d'
