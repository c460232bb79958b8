-- own: a stop or a restart of a container that lives, by its number, with the seconds and the signal that are used.
use Rattle.std.specs.Prelude.{ℕ, ℤ, ◌+◌, ◌<◌, ◌≤◌, length}
use Rattle.engine_text.specs.declared.container.Goal.{Goal}
use Rattle.engine_text.specs.declared.container.Life.{Life}
use Rattle.engine_text.specs.declared.ticket.Asked.{Asked}
use Rattle.machine_model.specs.State.{State}
use Rattle.machine_model.specs.Chain.{Effect, and_then, change, renew, tell_of}
use Rattle.machine_model.specs.EventTexts.{kill_event}
use Rattle.machine_model.specs.Effects.Halt.{set_deadline}
use Rattle.machine_model.specs.Effects.Meet.{meet_signal}
use Rattle.machine_events.specs.Fit.{AreTimely, CanEndAs}
use Rattle.machine_events.specs.ChangedLives.{changed_life}
use Rattle.machine_events.specs.Memory.{Memory, HasRoom}
use Rattle.machine_events.specs.declared.end_memory.EndMemory.{EndMemory}
use Rattle.machine_events.specs.declared.halting.Halting.{Halting}
use Rattle.container_table.specs.declared.life_change.LifeChange.{LifeChange}

-- What the call notes in the container's life.
abbrev pub noted_by : Halting → LifeChange
noted_by Halting.Stop = LifeChange.Stopping
noted_by Halting.Restart = LifeChange.ToRestart

-- What the call notes.
abbrev pub life_change_of : Halting → Life → Life
life_change_of halting = changed_life (noted_by halting)

-- The goal that the container has then.
abbrev pub goal_of : Halting → Goal
goal_of Halting.Stop = Goal.Stop
goal_of Halting.Restart = Goal.Restart

-- The call that its ticket is of.
abbrev pub asked_of : Halting → Asked
asked_of Halting.Stop = Asked.Stop
asked_of Halting.Restart = Asked.Restart

-- Event kill, what the call notes, the stop deadline, and then the signal is met.
abbrev pub halted : Halting → ℤ → ℕ → ℕ → State → Effect
halted halting seconds signal n =
    and_then (tell_of (kill_event signal) n)
    (and_then (renew n (life_change_of halting))
    (and_then (change (set_deadline seconds n)) (meet_signal signal n)))

-- The run may be ended, and there is room for a deadline before its end; with what the call notes in its life, the memory that is brought has what follows.
pub record CanHalt (halting : Halting) (seconds : ℤ) (signal n : ℕ) (brought : EndMemory) (m : Memory) : Type 0 where
  pub timely : AreTimely m.state
  pub execs : length m.state.execs ≤ m.room.scratch
  pub end : CanEndAs (life_change_of halting) (halted halting seconds signal n) n brought m.room m.state
  pub deadline : length m.state.timers + 1 < m.room.timers
  pub spare : 0 < m.spare

-- There is room for a ticket, for a deadline, and for the end of a main process with what may follow it.
pub record HasHaltRoom (m : Memory) : Type 0 where
  pub ticket : length m.state.tickets < m.room.tickets
  pub deadline : length m.state.timers + 1 < m.room.timers
  pub end : HasRoom m
