-- own: the tables as contracts see them, the state that they mean and their room.
use Rattle.std.specs.Prelude.{ℕ, ◌<◌, ◌≤◌, List, length}
use Rattle.machine_model.specs.State.{State}
use Rattle.machine_model.specs.Step.{at_moment}

-- How many items the lists may have that a step makes longer; no effect changes it.
pub record Room : Type 0 where
  pub timers : ℕ
  pub tickets : ℕ
  pub removed : ℕ
  pub kept : ℕ
  pub moments : ℕ
  pub scratch : ℕ

-- The tables: their state, and what stands in memory beside it.
pub record Memory : Type 0 where
  pub state : State
  pub room : Room
  -- how many of these may stand; uses are references to volumes
  pub containers : ℕ
  pub volumes : ℕ
  pub uses : ℕ
  pub execs : ℕ
  -- the kernel's spare places, for processes and what they are sent and write, and the bytes of each
  pub spare : ℕ
  pub bytes : ℕ
  -- how many more records each log and each output has room for
  pub logs : List ℕ
  pub outputs : List ℕ
  -- the numbers that a step has noted
  pub scratch : List ℕ

-- There is room for the end of a main process, and for what may follow it.
pub record HasRoom (m : Memory) : Type 0 where
  pub execs : length m.state.execs ≤ m.room.scratch
  pub timers : length m.state.timers < m.room.timers
  pub removed : length m.state.removed < m.room.removed
  pub kept : length m.state.kept < m.room.kept
  pub spare : 0 < m.spare

-- The tables at a moment.
abbrev pub standing : ℕ → Memory → Memory
standing moment m = record m { state = at_moment moment m.state }
