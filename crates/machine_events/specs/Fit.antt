-- own: what a state must be for its effects to be made without a fault.
use Rattle.std.specs.Prelude.{◌≡◌, ℕ, ◌+◌, ◌<◌, ◌≤◌, ◌^◌, List, [], ◌∷◌, Option, Some, None, ⊤, length, map, filter, vec_capacity}
use Rattle.std.specs.List.{AllByRecursion}
use Rattle.engine_text.specs.Scripts.{Program}
use Rattle.engine_text.specs.declared.container.Container.{Container}
use Rattle.engine_text.specs.declared.container.Goal.{Goal}
use Rattle.engine_text.specs.declared.container.Life.{Life}
use Rattle.engine_text.specs.declared.log.OwnedLog.{OwnedLog}
use Rattle.engine_text.specs.declared.owner.Owner.TheVariants.{Exec as OfExec}
use Rattle.engine_text.specs.declared.script.Effect.{Effect as ProcessEffect}
use Rattle.engine_text.specs.declared.script.Effect.TheVariants.{Lives, Wrote, Ended}
use Rattle.proc_kernel.specs.Catalogue.{program_of}
use Rattle.proc_kernel.specs.Processes.{thaw}
use Rattle.proc_kernel.specs.Times.{IsTimely}
use Rattle.machine_model.specs.State.{State, change_life, container_numbered, execs_of}
use Rattle.machine_model.specs.Chain.{Effect, Died}
use Rattle.machine_model.specs.Calls.Pause.{freeze_process}
use Rattle.machine_model.specs.Effects.EndMain.{end_exec}
use Rattle.machine_model.specs.Effects.Meet.{step_process}
use Rattle.machine_model.specs.History.{greatest_moment}
use Rattle.restart_policy.specs.declared.decision.Decision.{Decision}
use Rattle.restart_policy.specs.declared.decision.Decision.TheVariants.{Stay, Again}
use Rattle.machine_events.specs.Memory.{Room}
use Rattle.machine_events.specs.Outputs.{is_output_of}
use Rattle.machine_events.specs.declared.end_memory.EndMemory.{EndMemory}

-- The times of the processes reach at most a week ahead.
pub record AreTimely (s : State) : Type 0 where
  pub clock : s.clock ≤ greatest_moment
  pub processes : AllByRecursion (λ e. IsTimely s.clock e.process) s.processes

-- The starts of the containers can be counted.
abbrev pub AreFew : List Container → Type 0
AreFew = AllByRecursion (λ c. c.life.starts < 2 ^ 63)

-- A step of a process that wrote nothing.
abbrev pub IsQuiet : ProcessEffect → Type 0
IsQuiet Lives = ⊤
IsQuiet (Wrote stream payload) = ⊥
IsQuiet (Ended code) = ⊤

-- The end of the exec with that number, with 137.
abbrev pub end_number : ℕ → State → Effect
end_number = end_exec 137

-- The exec with that number goes on.
abbrev pub thaw_number : ℕ → State → Effect
thaw_number n = step_process thaw (OfExec n)

-- The exec with that number is frozen.
abbrev pub freeze_number : ℕ → State → Effect
freeze_number n = freeze_process (OfExec n)

-- A restart at most a minute later.
abbrev pub IsSoon : Decision → Type 0
IsSoon Stay = ⊤
IsSoon (Again delay) = delay ≤ 60000

-- The numbers of a container's execs.
abbrev pub exec_numbers : ℕ → State → List ℕ
exec_numbers n s = map (λ x. x.number) (execs_of n s)

-- The outputs of a container's execs.
abbrev pub outputs_of : ℕ → State → List OwnedLog
outputs_of n s = filter (is_output_of n s.execs) s.outputs

-- The script is that of the container's words at its next start.
abbrev pub IsScriptOf : ℕ → Option Program → State → Type 0
IsScriptOf n script s =
    (c : Container) → container_numbered n s ≡ Some c → script ≡ program_of c.life.words (c.life.starts + 1)

-- The container may be launched with this script.
pub record CanLaunch (n : ℕ) (script : Option Program) (s : State) : Type 0 where
  pub few : AreFew s.containers
  pub pid : s.next_pid < 2 ^ 63
  pub named : IsScriptOf n script s

-- The script that the end of the container's run wants: that of its words at its next start where its goal is a restart, else none.
abbrev pub next_script : Goal → Container → Option Program
next_script Goal.Remove c = None
next_script Goal.Stop c = None
next_script Goal.Restart c = program_of c.life.words (c.life.starts + 1)
next_script Goal.None c = None

-- The script is the one that the end of the container's run wants.
abbrev pub IsNextScript : ℕ → Option Program → State → Type 0
IsNextScript n script s = (c : Container) → container_numbered n s ≡ Some c → script ≡ next_script c.life.goal c

-- The container may be launched with this script where the end of its run wants that.
pub record CanLaunchNext (n : ℕ) (script : Option Program) (s : State) : Type 0 where
  pub few : AreFew s.containers
  pub pid : s.next_pid < 2 ^ 63
  pub named : IsNextScript n script s

-- The container has that goal.
abbrev pub HasGoal : Goal → ℕ → State → Type 0
HasGoal goal n s = (c : Container) → container_numbered n s ≡ Some c → c.life.goal ≡ goal

-- The container may be removed, the memory that is brought having what is kept of it.
pub record CanRemove (n : ℕ) (brought : EndMemory) (room : Room) (s : State) : Type 0 where
  pub removed : length s.removed < room.removed
  pub kept : length s.kept < room.kept
  pub numbers : brought.execs ≡ exec_numbers n s
  pub empty : brought.logs.items ≡ []
  pub logs : length (outputs_of n s) + 1 ≤ vec_capacity brought.logs

-- The container's main process may end, and what follows has its room.
pub record CanSettle (n : ℕ) (brought : EndMemory) (room : Room) (s : State) : Type 0 where
  pub clock : s.clock ≤ greatest_moment
  pub launch : CanLaunchNext n brought.script s
  pub remove : CanRemove n brought room s
  pub execs : length s.execs ≤ room.scratch
  pub timers : length s.timers < room.timers

-- A main process has ended.
abbrev pub HasEnded : List Died → Type 0
HasEnded [] = ⊥
HasEnded (d ∷ ds) = ⊤

-- Where the effect ends the container's main process, the memory that is brought has what follows.
abbrev pub CanEndBy : (State → Effect) → ℕ → EndMemory → Room → State → Type 0
CanEndBy e n brought room s = HasEnded (e s).died → CanSettle n brought room s

-- The same with the life that the effect gives the container before that end.
abbrev pub CanEndAs : (Life → Life) → (State → Effect) → ℕ → EndMemory → Room → State → Type 0
CanEndAs life_change e n brought room s = HasEnded (e s).died → CanSettle n brought room (change_life n life_change s)

-- Whose main process ended with which code.
abbrev pub died_of : ℕ → Option ℕ → List Died
died_of n None = []
died_of n (Some code) = record { number = n; code = code } ∷ []
