-- The table of commands (own: `dockc ADDR COMMAND ..`).
use Rattle.std.specs.Prelude.{ℕ, List, [], ◌∷◌, ◌++◌, map, codes, Option, None, option_and_then, option_map, find}
use Rattle.engine_text.specs.Texts.{same_bytes}
use Rattle.engine_line.specs.Lines.{port_in}
use Rattle.client_model.specs.Commands.Create.{read_create}
use Rattle.client_model.specs.Commands.Run.{read_run}
use Rattle.client_model.specs.Commands.Start.{read_start}
use Rattle.client_model.specs.Commands.Pause.{read_pause}
use Rattle.client_model.specs.Commands.Unpause.{read_unpause}
use Rattle.client_model.specs.Commands.Stop.{read_stop}
use Rattle.client_model.specs.Commands.Restart.{read_restart}
use Rattle.client_model.specs.Commands.Kill.{read_kill}
use Rattle.client_model.specs.Commands.Remove.{read_remove}
use Rattle.client_model.specs.Commands.Rename.{read_rename}
use Rattle.client_model.specs.Commands.Update.{read_update}
use Rattle.client_model.specs.Commands.List.{read_list}
use Rattle.client_model.specs.Commands.Inspect.{read_inspect}
use Rattle.client_model.specs.Commands.Version.{read_version}
use Rattle.client_model.specs.Commands.Logs.{read_logs}
use Rattle.client_model.specs.Commands.Attach.{read_attach}
use Rattle.client_model.specs.Commands.Exec.{read_exec}
use Rattle.client_model.specs.Commands.Wait.{read_wait}
use Rattle.client_model.specs.Commands.Events.{read_events}
use Rattle.client_model.specs.Commands.Watch.{read_watch}
use Rattle.client_model.specs.Commands.Health.{read_health}
use Rattle.client_model.specs.Commands.VolumeCreate.{read_volume_create}
use Rattle.client_model.specs.Commands.VolumeInspect.{read_volume_inspect}
use Rattle.client_model.specs.Commands.VolumeRemove.{read_volume_remove}
use Rattle.client_model.specs.Commands.VolumeList.{read_volume_list}
use Rattle.client_model.specs.Commands.Journal.{read_journal}
use Rattle.client_model.specs.Commands.Replay.{read_replay}
use Rattle.client_model.specs.declared.command.Command.{Command}
use Rattle.client_model.specs.declared.command.Line.{Line}

-- names, each with how the words behind it are read
abbrev pub Table : Type 0
Table = List (List ℕ × (List (List ℕ) → Option Command))

-- what the words behind the first of them ask for, by the row of the first
abbrev pub read_by : Table → List (List ℕ) → Option Command
read_by table [] = None
read_by table (name ∷ words) = option_and_then (λ row. row.1 words) (find (λ row. same_bytes name row.0) table)

abbrev pub volume_commands : Table
volume_commands =
    (codes "create", read_volume_create)
    ∷ (codes "inspect", read_volume_inspect)
    ∷ (codes "rm", read_volume_remove)
    ∷ (codes "ls", read_volume_list) ∷ []

abbrev pub commands : Table
commands =
    (codes "create", read_create)
    ∷ (codes "run", read_run)
    ∷ (codes "start", read_start)
    ∷ (codes "pause", read_pause)
    ∷ (codes "unpause", read_unpause)
    ∷ (codes "stop", read_stop)
    ∷ (codes "restart", read_restart)
    ∷ (codes "kill", read_kill)
    ∷ (codes "rm", read_remove)
    ∷ (codes "rename", read_rename)
    ∷ (codes "update", read_update)
    ∷ (codes "ps", read_list)
    ∷ (codes "inspect", read_inspect)
    ∷ (codes "version", read_version)
    ∷ (codes "logs", read_logs)
    ∷ (codes "attach", read_attach)
    ∷ (codes "exec", read_exec)
    ∷ (codes "wait", read_wait)
    ∷ (codes "events", read_events)
    ∷ (codes "watch", read_watch)
    ∷ (codes "health", read_health)
    ∷ (codes "volume", read_by volume_commands)
    ∷ (codes "journal", read_journal)
    ∷ (codes "replay", read_replay) ∷ []

-- the names of the commands that change a container, each with what stands behind ADDR
abbrev pub usages_of_changes : List (List ℕ × List ℕ)
usages_of_changes =
    (codes "create", codes "create [--name NAME] [--restart POLICY[:MAX]] [-i] [-v VOLUME:PATH[:ro]].. IMAGE [WORD..]")
    ∷ (codes "run", codes "run [--rm] [--name NAME] [--restart POLICY[:MAX]] [-i] [-v VOLUME:PATH[:ro]].. IMAGE [WORD..]")
    ∷ (codes "start", codes "start REF")
    ∷ (codes "pause", codes "pause REF")
    ∷ (codes "unpause", codes "unpause REF")
    ∷ (codes "stop", codes "stop [-t N] REF")
    ∷ (codes "restart", codes "restart [-t N] REF")
    ∷ (codes "kill", codes "kill [-s SIG] REF")
    ∷ (codes "rm", codes "rm [-f] REF")
    ∷ (codes "rename", codes "rename REF NAME")
    ∷ (codes "update", codes "update --restart POLICY[:MAX] REF") ∷ []

-- the same of the others
abbrev pub usages_of_others : List (List ℕ × List ℕ)
usages_of_others =
    (codes "ps", codes "ps [-a]")
    ∷ (codes "inspect", codes "inspect REF")
    ∷ (codes "version", codes "version")
    ∷ (codes "logs", codes "logs [-f] REF")
    ∷ (codes "attach", codes "attach REF")
    ∷ (codes "exec", codes "exec [-i] REF WORD..")
    ∷ (codes "wait", codes "wait REF")
    ∷ (codes "events", codes "events SINCE UNTIL")
    ∷ (codes "watch", codes "watch UNTIL")
    ∷ (codes "health", codes "health UNTIL REF")
    ∷ (codes "volume", codes "volume create|inspect|rm NAME, or volume ls")
    ∷ (codes "journal", codes "journal")
    ∷ (codes "replay", codes "replay [--upgrade] [--seed HEX] [MOMENT]") ∷ []

-- of all, in the table's order
abbrev pub usages : List (List ℕ × List ℕ)
usages = usages_of_changes ++ usages_of_others

-- the names of the table
abbrev pub command_names : List (List ℕ)
command_names = map (λ row. row.0) commands

abbrev pub line_with : List ℕ → Command → Line
line_with address command = record { address = address; command = command }

-- the daemon's address: the first word
abbrev pub address_in : List (List ℕ) → List ℕ
address_in [] = []
address_in (address ∷ words) = address

-- a line: ADDR is 127.0.0.1:PORT, and then a row of the table
abbrev pub line_of : List (List ℕ) → Option Line
line_of [] = None
line_of (address ∷ words) = option_and_then (λ port. option_map (line_with address) (read_by commands words)) (port_in address)
