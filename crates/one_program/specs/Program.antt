-- What running `engineone` says, by the words after the program's name (own).
use Rattle.std.specs.Prelude.{ℕ, ◌≡◌, ◌⊎◌, List, Option, Some, None, codes}
use Rattle.engine_ports.specs.Door.{Outside}
use Rattle.engine_line.specs.OneLine.{one_line_of}
use Rattle.engine_line.specs.declared.line.Beginning.{Beginning}
use Rattle.engine_line.specs.declared.line.Beginning.TheVariants.{New, Reboot}
use Rattle.engine_line.specs.declared.line.OneLine.{OneLine}
use Rattle.session_model.specs.declared.ending.Worst.TheVariants.{NoMemory}
use Rattle.polled_ports.specs.PollDoor.{PollDoorView}
use Rattle.program_parts.specs.Address.{addr_of}
use Rattle.program_parts.specs.Statuses.{status_by}
use Rattle.program_parts.specs.Telling.{TellsUsage}
use Rattle.one_program.specs.Listening.{Listens, ServesNew}
use Rattle.one_program.specs.Rebooting.{Reboots}

-- what is written where the words aren't a line
abbrev pub usage_line : List ℕ
usage_line = codes "usage: engineone ADDR [--seed HEX] [--clock START:STEP] [--connections N] [--journal N] [--reboot]\n"

-- how it is used is told, and nothing is read, asked, bound or run
abbrev pub OnlyTells : List ℕ → ℕ → Outside → Outside → PollDoorView → PollDoorView → ℕ → ℕ → Type 0
OnlyTells usage status o o' d d' faults faults' =
    TellsUsage usage status o.sink o'.sink × (o'.source ≡ o.source) × (o'.clock ≡ o.clock) × (d' ≡ d) × (faults' ≡ faults)

-- memory was refused for the address: nothing is read, written, asked, bound or run
abbrev pub WantsMemory : ℕ → Outside → Outside → PollDoorView → PollDoorView → ℕ → ℕ → Type 0
WantsMemory status o o' d d' faults faults' = (status ≡ status_by NoMemory) × (o' ≡ o) × (d' ≡ d) × (faults' ≡ faults)

-- by a new daemon connections are taken in at the address, and nothing is read or written here; or the daemon goes on with a journal
abbrev pub BeginsBy : Beginning → List ℕ → OneLine → ℕ → Outside → Outside → PollDoorView → PollDoorView → ℕ → ℕ → Type 0
BeginsBy (New seed) addr line status o o' d d' faults faults' =
    (o'.source ≡ o.source) × (o'.sink ≡ o.sink)
    × Listens addr status o.clock o'.clock d d' faults faults' (λ bound. ServesNew line seed status o.clock o'.clock bound d' faults faults')
BeginsBy Reboot addr line status o o' d d' faults faults' = Reboots addr line status o o' d d' faults faults'

-- of a line, at its own ADDR
abbrev pub RunsLine : OneLine → ℕ → Outside → Outside → PollDoorView → PollDoorView → ℕ → ℕ → Type 0
RunsLine line status o o' d d' faults faults' =
    WantsMemory status o o' d d' faults faults' ⊎ BeginsBy line.beginning (addr_of line.port) line status o o' d d' faults faults'

abbrev pub RunsWords : Option OneLine → ℕ → Outside → Outside → PollDoorView → PollDoorView → ℕ → ℕ → Type 0
RunsWords None status o o' d d' faults faults' = OnlyTells usage_line status o o' d d' faults faults'
RunsWords (Some line) status o o' d d' faults faults' = RunsLine line status o o' d d' faults faults'

abbrev pub RunsProgram : List (List ℕ) → ℕ → Outside → Outside → PollDoorView → PollDoorView → ℕ → ℕ → Type 0
RunsProgram words status o o' d d' faults faults' = RunsWords (one_line_of words) status o o' d d' faults faults'
