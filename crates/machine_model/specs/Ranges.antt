-- In which ranges the numbers of what stands lie (Docker Engine API v1.43, ContainerState: ExitCode; signal(7); own: an exit
-- code is a byte).
use Rattle.std.specs.Prelude.{ℕ, ◌<◌, ◌≤◌, List, Option, Some, None, length}
use Rattle.std.specs.List.{AllByRecursion}
use Rattle.proc_kernel.specs.Processes.{Process}
use Rattle.proc_kernel.specs.Tables.{Entry}
use Rattle.machine_model.specs.declared.limits.TheConstants.{MOST_MOUNTS}
use Rattle.machine_model.specs.State.{State}
use Rattle.engine_text.specs.declared.container.Life.{Life}
use Rattle.engine_text.specs.declared.script.Op.{Op}
use Rattle.engine_text.specs.declared.script.Op.TheVariants.{Write, Copy, Sleep, Busy, Again, Exit, WaitForever}

-- An op that ends its process does so with a code of one byte.
abbrev pub HasCode : Op → Type 0
HasCode (Write stream payload) = Unit {0}
HasCode Copy = Unit {0}
HasCode (Sleep time) = Unit {0}
HasCode (Busy time) = Unit {0}
HasCode (Again time) = Unit {0}
HasCode (Exit code) = code < 256
HasCode WaitForever = Unit {0}

-- Each of these ops does.
abbrev pub HaveCodes : List Op → Type 0
HaveCodes ops = AllByRecursion HasCode ops

-- A process whose ops end it with codes of one byte.
pub record IsCoded (p : Process) : Type 0 where
  pub script : HaveCodes p.script
  pub left : HaveCodes p.left

-- Each of these is.
abbrev pub AreCoded : List Entry → Type 0
AreCoded ps = AllByRecursion (λ e. IsCoded e.process) ps

-- A container's exit code is a byte, and its stop signal one of 1 to 31.
abbrev pub IsLifeInRange : Life → Type 0
IsLifeInRange l = (l.code < 256) × (1 ≤ l.stop_signal.number) × (l.stop_signal.number ≤ 31)

-- A code that is there is a byte.
abbrev pub IsByte : Option ℕ → Type 0
IsByte None = Unit {0}
IsByte (Some code) = code < 256

-- A moment that is there lies at or before the clock.
abbrev pub HasPassed : ℕ → Option ℕ → Type 0
HasPassed clock None = Unit {0}
HasPassed clock (Some moment) = moment ≤ clock

-- A container was created, last launched and last ended at or before the clock: else inspect could tell a moment that is
-- past the greatest.
abbrev pub IsPast : ℕ → Life → Type 0
IsPast clock l = (l.created ≤ clock) × HasPassed clock l.started × HasPassed clock l.finished

-- Codes and signals lie in their ranges, no moment is past the clock, and a container has at most 16 mounts, each an event
-- of its launch.
pub record IsInRange (s : State) : Type 0 where
  pub processes : AreCoded s.processes
  pub lives : AllByRecursion (λ c. IsLifeInRange c.life) s.containers
  pub codes : AllByRecursion (λ x. IsByte x.code) s.execs
  pub mounts : AllByRecursion (λ c. length c.life.mounts ≤ MOST_MOUNTS) s.containers
  pub moments : AllByRecursion (λ c. IsPast s.clock c.life) s.containers
  pub volumes : AllByRecursion (λ v. v.created ≤ s.clock) s.volumes
