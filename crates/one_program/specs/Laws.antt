-- Laws of the statuses 4 and 5 (own: the statuses of this project).
use Rattle.std.specs.Prelude.{ℕ, ◌≡◌, ◌⊎◌, List, [], Contains, Some}
use Rattle.engine_ports.specs.Rose.{Rose}
use Rattle.engine_ports.specs.Clock.{ClockView}
use Rattle.engine_ports.specs.Door.{Outside}
use Rattle.engine_line.specs.declared.line.Beginning.{Beginning}
use Rattle.engine_line.specs.declared.line.Beginning.TheVariants.{New, Reboot}
use Rattle.engine_line.specs.declared.line.OneLine.{OneLine}
use Rattle.engine_line.specs.declared.line.Stepping.{Stepping}
use Rattle.session_model.specs.declared.ending.Worst.TheVariants.{Fault}
use Rattle.session_model.specs.Pass.{PassView}
use Rattle.daemon_core.specs.declared.daemon.Daemon.{Daemon}
use Rattle.daemon_core.specs.Passing.{whole_pass}
use Rattle.daemon_core.specs.Storing.{charter_of, pass_of}
use Rattle.door_model.specs.Connections.{most_from}
use Rattle.engine_reboot.specs.Rebooting.{RebootSays}
use Rattle.engine_reboot.specs.declared.rebooting.Rebooted.TheVariants.{Ready}
use Rattle.polled_ports.specs.PollDoor.{PollDoorView}
use Rattle.engine_loop.specs.Lives.{Life}
use Rattle.engine_loop.specs.Running.{RunsLoop}
use Rattle.one_program.specs.Program.{RunsLine}

-- where the line sets the clock, the status is never that of a clock that was stopped
abbrev pub law_never_stopped : Type 0
law_never_stopped =
    (line : OneLine) (stepping : Stepping) (o o' : Outside) (d d' : PollDoorView) (faults faults' : ℕ)
    → line.clock ≡ Some stepping → RunsLine line 5 o o' d d' faults faults' → ⊥

-- a read or a write of a connection failed
abbrev pub HasFailed : Life → Type 0
HasFailed l = Rose l.came.source.faults l.left.source.faults ⊎ Rose l.came.sink.faults l.left.sink.faults

-- how a line's daemon begins, and from which number on it counts its connections: new, or as the one of a reboot
abbrev pub IsBeginning : Beginning → OneLine → ℕ → PassView → Type 0
IsBeginning (New seed) line first begun =
    (opening : ℕ) × (first ≡ 0) × (begun ≡ pass_of (charter_of seed opening line.entries) [])
IsBeginning Reboot line first begun =
    (text : List ℕ) × (moment : ℕ) × (daemon : Daemon) × RebootSays text line.entries moment (Ready daemon first) × (begun ≡ whole_pass daemon)

-- so it did of one of those that the line's daemon served
pub record SomeFailed (line : OneLine) (d' : PollDoorView) : Type 0 where
  pub first : ℕ
  pub begun : PassView
  pub begins : IsBeginning line.beginning line first begun
  pub daemon : Daemon
  pub bound : PollDoorView
  pub clock : ClockView
  pub clock_now : ClockView
  pub runs : RunsLoop first (most_from first line.connections) Fault begun (whole_pass daemon) bound d' clock clock_now
  pub number : ℕ
  pub life : Life
  pub served : Contains runs.lives (number, life)
  pub failed : HasFailed life

-- the status is that of a fault only where the door's faults rose, or the runner's, or those of a connection, or those of the source of a
-- journal
abbrev pub law_failed : Type 0
law_failed =
    (line : OneLine) (o o' : Outside) (d d' : PollDoorView) (faults faults' : ℕ)
    → RunsLine line 4 o o' d d' faults faults'
    → Rose d.door.faults d'.door.faults ⊎ (Rose faults faults' ⊎ (SomeFailed line d' ⊎ ((line.beginning ≡ Reboot) × Rose o.source.faults o'.source.faults)))
