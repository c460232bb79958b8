-- What every state of a legal history keeps (own: what the laws of the machine need).
use Rattle.std.specs.Prelude.{◌≡◌, ◌≢◌, ℕ, ◌+◌, ◌*◌, ◌^◌, ◌<◌, ◌≤◌, ◌==◌, ◌||◌, not, List, [], ◌∷◌, ◌++◌, Bool, true, false, IsTrue, Option, Some, None, filter, map, length, sum_by}
use Rattle.std.specs.List.{flat_map, AllByRecursion}
use Rattle.engine_text.specs.Id.{id_of}
use Rattle.proc_kernel.specs.Catalogue.{program_of}
use Rattle.proc_kernel.specs.Processes.{Process, is_frozen}
use Rattle.proc_kernel.specs.Tables.{process_of}
use Rattle.proc_kernel.specs.Times.{IsTimely}
use Rattle.machine_model.specs.declared.limits.TheConstants.{CONTAINER_BYTES, EXEC_BYTES, INPUT_BYTES}
use Rattle.machine_model.specs.Ranges.{IsInRange}
use Rattle.machine_model.specs.State.{State, container_numbered, exec_numbered, timer_of, is_live}
use Rattle.api_json.specs.Status.{is_paused, is_restarting}
use Rattle.machine_model.specs.Due.{due_actions}
use Rattle.machine_model.specs.History.{greatest_moment}
use Rattle.machine_model.specs.Calls.Create.{volume_named}
use Rattle.machine_model.specs.Effects.Launch.{log_size}
use Rattle.engine_text.specs.declared.owner.Owner.{Owner}
use Rattle.engine_text.specs.declared.owner.Owner.TheVariants.{Container as OfContainer, Exec as OfExec}
use Rattle.engine_text.specs.declared.container.Container.{Container}
use Rattle.engine_text.specs.declared.container.Goal.{Goal}
use Rattle.engine_text.specs.declared.container.Life.{Life}
use Rattle.engine_text.specs.declared.exec.Exec.{Exec}
use Rattle.engine_text.specs.declared.log.OwnedLog.{OwnedLog}
use Rattle.engine_text.specs.declared.mounts.Mount.{Mount}
use Rattle.engine_text.specs.declared.reply.Reply.{Reply}
use Rattle.engine_text.specs.declared.volume.VolumeUse.{VolumeUse}
use Rattle.engine_text.specs.declared.ticket.Ticket.{Ticket}
use Rattle.engine_text.specs.declared.step.DueAction.{DueAction}
use Rattle.engine_text.specs.declared.status.Status.{Status}
use Rattle.engine_text.specs.declared.status.Status.TheVariants.{Created, Running, Paused, Restarting, Removing, Exited, Dead}
use Rattle.container_table.specs.declared.rank.Rank.{Rank}

-- No two of these are one.
abbrev pub AreDistinct : {A : Type 0} → List A → Type 0
AreDistinct [] = Unit {0}
AreDistinct (x ∷ xs) = AllByRecursion (λ y. x ≢ y) xs × AreDistinct xs

-- Whether there is one.
abbrev pub is_there : {A : Type 0} → Option A → Bool
is_there None = false
is_there (Some x) = true

-- ---- ids, names and numbers

-- The numbers of containers and execs.
abbrev pub all_numbers : State → List ℕ
all_numbers s = map (λ c. c.number) s.containers ++ map (λ x. x.number) s.execs

-- The ids of containers and execs.
abbrev pub all_ids : State → List (List ℕ)
all_ids s = map (λ c. c.id) s.containers ++ map (λ x. x.id) s.execs

-- Ids, names, numbers and volumes' names are distinct, numbers lie below the next, and each id is its number's.
pub record HasNames (s : State) : Type 0 where
  pub ids : AreDistinct (all_ids s)
  pub names : AreDistinct (map (λ c. c.name) s.containers)
  pub numbers : AreDistinct (all_numbers s)
  pub volumes : AreDistinct (map (λ v. v.name) s.volumes)
  pub below : AllByRecursion (λ n. n < s.next_number) (all_numbers s)
  pub container_ids : AllByRecursion (λ c. c.id ≡ id_of s.seed c.number) s.containers
  pub exec_ids : AllByRecursion (λ x. x.id ≡ id_of s.seed x.number) s.execs

-- ---- processes

-- A process lives in running, paused and removing, none in created, exited and restarting; in dead one may.
abbrev pub FitsStatus : Status → Bool → Type 0
FitsStatus Running live = live ≡ true
FitsStatus Paused live = live ≡ true
FitsStatus Removing live = live ≡ true
FitsStatus Created live = live ≡ false
FitsStatus Exited live = live ≡ false
FitsStatus Restarting live = live ≡ false
FitsStatus Dead live = Unit {0}

-- A container has a main process as its status says.
abbrev pub HasMain : State → Container → Type 0
HasMain s c = FitsStatus c.life.status (is_live (OfContainer c.number) s)

-- The process, if it stands, is frozen or not as said.
abbrev pub IsFrozenAs : Bool → Option Process → Type 0
IsFrozenAs frozen None = Unit {0}
IsFrozenAs frozen (Some p) = is_frozen p.pace ≡ frozen

-- A container's process is frozen exactly in paused.
abbrev pub IsFrozenRight : State → Container → Type 0
IsFrozenRight s c = IsFrozenAs (is_paused c.life.status) (process_of (OfContainer c.number) s.processes)

-- A process that stands has a main process beside it, and is frozen exactly where that is.
abbrev pub IsFrozenLike : Option Process → Option Process → Type 0
IsFrozenLike None main = Unit {0}
IsFrozenLike (Some p) None = ⊥
IsFrozenLike (Some p) (Some main) = is_frozen p.pace ≡ is_frozen main.pace

-- So it is with each running exec and its container's main process.
abbrev pub FollowsMain : State → Exec → Type 0
FollowsMain s x =
    IsFrozenLike (process_of (OfExec x.number) s.processes) (process_of (OfContainer x.container) s.processes)

-- A process is of a container or an exec that stands.
abbrev pub HasOwner : State → Owner → Type 0
HasOwner s (OfContainer n) = IsTrue (is_there (container_numbered n s))
HasOwner s (OfExec n) = IsTrue (is_there (exec_numbered n s))

-- A container's process id isn't 0 exactly where its process lives.
abbrev pub HasPid : State → Container → Type 0
HasPid s c = not (c.life.pid == 0) ≡ is_live (OfContainer c.number) s

-- An exec's likewise.
abbrev pub HasExecPid : State → Exec → Type 0
HasExecPid s x = not (x.pid == 0) ≡ is_live (OfExec x.number) s

-- Each owner has one process at most, and processes stand and are frozen as the statuses say.
pub record HasProcesses (s : State) : Type 0 where
  pub mains : AllByRecursion (HasMain s) s.containers
  pub frozen : AllByRecursion (IsFrozenRight s) s.containers
  pub execs : AllByRecursion (FollowsMain s) s.execs
  pub single : AreDistinct (map (λ e. e.owner) s.processes)
  pub owners : AllByRecursion (λ e. HasOwner s e.owner) s.processes
  pub pids : AllByRecursion (HasPid s) s.containers
  pub exec_pids : AllByRecursion (HasExecPid s) s.execs

-- ---- goals and timers

-- A goal stands only where the main process lives.
abbrev pub GoalStands : Goal → Bool → Type 0
GoalStands Goal.None live = Unit {0}
GoalStands Goal.Stop live = live ≡ true
GoalStands Goal.Restart live = live ≡ true
GoalStands Goal.Remove live = live ≡ true

-- So it is with a container's goal.
abbrev pub HasGoal : State → Container → Type 0
HasGoal s c = GoalStands c.life.goal (is_live (OfContainer c.number) s)

-- A timer is of a container that stands; a deadline (rank 1 or 2) stands only where its main process lives.
pub record TimerStands (s : State) (d : DueAction) : Type 0 where
  pub least : 1 ≤ d.rank
  pub greatest : d.rank ≤ 3
  pub container : IsTrue (is_there (container_numbered d.number s))
  pub deadline : d.rank ≤ 2 → IsTrue (is_live (OfContainer d.number) s)

-- A restart timer stands exactly in restarting.
abbrev pub HasTimer : State → Container → Type 0
HasTimer s c = is_there (timer_of Rank.RestartTimer c.number s) ≡ is_restarting c.life.status

-- A removal deadline stands only in removing: else it would make a paused container dead and leave its pause untold.
abbrev pub HasRemoval : State → Container → Type 0
HasRemoval s c = IsTrue (is_there (timer_of Rank.RemovalDeadline c.number s)) → c.life.status ≡ Removing

-- Two timers differ in rank or number.
abbrev pub AreOther : DueAction → DueAction → Type 0
AreOther d e = (d.rank ≡ e.rank) → d.number ≢ e.number

-- No two timers have one rank and number.
abbrev pub AreSingle : List DueAction → Type 0
AreSingle [] = Unit {0}
AreSingle (d ∷ ds) = AllByRecursion (AreOther d) ds × AreSingle ds

-- Goals, deadlines and restart timers stand as the processes and statuses say.
pub record HasTimers (s : State) : Type 0 where
  pub goals : AllByRecursion (HasGoal s) s.containers
  pub timers : AllByRecursion (TimerStands s) s.timers
  pub restarts : AllByRecursion (HasTimer s) s.containers
  pub removals : AllByRecursion (HasRemoval s) s.containers
  pub single : AreSingle s.timers

-- ---- volumes

-- A mount's reference to its volume.
abbrev pub use_of : Container → Mount → VolumeUse
use_of c m = record { volume = m.volume; container = c.number }

-- The references of a container's mounts, in order.
abbrev pub uses_of : Container → List VolumeUse
uses_of c = map (use_of c) c.life.mounts

-- A container's mounts name volumes that stand.
abbrev pub HasMounts : State → Container → Type 0
HasMounts s c = AllByRecursion (λ m. IsTrue (is_there (volume_named m.volume s))) c.life.mounts

-- Each mount names a volume that keeps the reference, and no other reference is kept.
pub record HasVolumes (s : State) : Type 0 where
  pub stand : AllByRecursion (HasMounts s) s.containers
  pub uses : s.uses ≡ flat_map uses_of s.containers

-- ---- tickets

-- A ticket that isn't ready names a container that stands.
abbrev pub TicketStands : State → Ticket → Option Reply → Type 0
TicketStands s t None = IsTrue (is_there (container_numbered t.container s))
TicketStands s t (Some reply) = Unit {0}

-- Tickets' numbers are distinct and lie below the next.
pub record HasTickets (s : State) : Type 0 where
  pub stand : AllByRecursion (λ t. TicketStands s t t.reply) s.tickets
  pub numbers : AreDistinct (map (λ t. t.number) s.tickets)
  pub below : AllByRecursion (λ t. t.number < s.next_ticket) s.tickets

-- ---- moments and sizes

-- No due moment lies below the clock; the clock, the logs and the waiting input keep their limits.
pub record IsWithinLimits (s : State) : Type 0 where
  pub dues : AllByRecursion (λ d. s.clock ≤ d.moment) (due_actions s)
  pub clock : s.clock ≤ greatest_moment
  pub logs : AllByRecursion (λ c. log_size c.life.log ≤ CONTAINER_BYTES) s.containers
  pub outputs : AllByRecursion (λ o. log_size o.log ≤ EXEC_BYTES) s.outputs
  pub input : AllByRecursion (λ e. sum_by length e.process.input ≤ INPUT_BYTES) s.processes

-- ---- counts

-- A container in any status but created has been started: else an attach would follow run 0.
abbrev pub HasStarted : Life → Type 0
HasStarted l = l.status ≢ Created → 1 ≤ l.starts

-- The execs that run.
abbrev pub live_execs : State → List Exec
live_execs s = filter (λ x. is_live (OfExec x.number) s) s.execs

-- Each count is bounded by the count of steps, and no count overflows; what isn't as created was started.
pub record HasCounts (s : State) : Type 0 where
  pub tickets : length s.tickets ≤ s.step_count
  pub steps : length s.tickets + s.step_count ≤ 2 ^ 57
  pub events : s.event_count + length (live_execs s) ≤ 64 * s.step_count
  pub calls : s.call_count ≤ s.step_count
  pub starts : AllByRecursion (λ c. c.life.starts ≤ s.step_count) s.containers
  pub restarts : AllByRecursion (λ c. c.life.restarts ≤ s.step_count) s.containers
  pub started : AllByRecursion (λ c. HasStarted c.life) s.containers

-- So are the next numbers; and the next process id isn't 0, which says that no process lives.
pub record HasNumbers (s : State) : Type 0 where
  pub next_number : s.next_number ≤ s.step_count
  pub next_ticket : s.next_ticket ≤ s.step_count
  pub next_pid : s.next_pid ≤ 1001 + s.step_count
  pub first_pid : 1 ≤ s.next_pid

-- ---- execs

-- An exec's container stands: else nothing would end it.
abbrev pub HasContainer : State → Exec → Type 0
HasContainer s x = IsTrue (is_there (container_numbered x.container s))

-- An exec that hasn't started has no process: else its start would give it a second one.
abbrev pub IsUnstarted : State → Exec → Type 0
IsUnstarted s x = x.started ≡ false → is_live (OfExec x.number) s ≡ false

-- Nor has it written: else its process could write more than its output holds.
abbrev pub HasNoOutput : State → Exec → Type 0
HasNoOutput s x = x.started ≡ false → AllByRecursion (λ o. o.owner ≡ OfExec x.number → log_size o.log ≡ 0) s.outputs

-- Execs are of containers that stand, each has one output, in their order, and one that hasn't started has done nothing.
pub record HasExecs (s : State) : Type 0 where
  pub containers : AllByRecursion (HasContainer s) s.execs
  pub outputs : map (λ o. o.owner) s.outputs ≡ map (λ x. OfExec x.number) s.execs
  pub unstarted : AllByRecursion (IsUnstarted s) s.execs
  pub empty : AllByRecursion (HasNoOutput s) s.execs

-- ---- what processes need to go on

-- The words of a container that lives or restarts name a program: else a restart would launch nothing, in no status that fits.
abbrev pub HasProgram : State → Container → Type 0
HasProgram s c =
    IsTrue (is_live (OfContainer c.number) s || is_restarting c.life.status) → IsTrue (is_there (program_of c.life.words 1))

-- How many bytes a process may yet write.
abbrev pub room_left : Option Process → ℕ
room_left None = 0
room_left (Some p) = p.room

-- A log has room for all that its process may yet write: else a write would pass the log's limit.
abbrev pub HasLogRoom : State → Container → Type 0
HasLogRoom s c = log_size c.life.log + room_left (process_of (OfContainer c.number) s.processes) ≤ CONTAINER_BYTES

-- So it is with an exec's output.
abbrev pub HasOutputRoom : State → OwnedLog → Type 0
HasOutputRoom s o = log_size o.log + room_left (process_of o.owner s.processes) ≤ EXEC_BYTES

-- Restarts find their programs, writes their room, and no process's times lie behind the clock or more than a week ahead.
pub record CanGoOn (s : State) : Type 0 where
  pub programs : AllByRecursion (HasProgram s) s.containers
  pub logs : AllByRecursion (HasLogRoom s) s.containers
  pub outputs : AllByRecursion (HasOutputRoom s) s.outputs
  pub times : AllByRecursion (λ e. IsTimely s.clock e.process) s.processes

-- ---- all of these

-- A state in which a legal history can stand, and go on.
pub record IsConsistent (s : State) : Type 0 where
  pub names : HasNames s
  pub processes : HasProcesses s
  pub timers : HasTimers s
  pub volumes : HasVolumes s
  pub tickets : HasTickets s
  pub limits : IsWithinLimits s
  pub counts : HasCounts s
  pub numbers : HasNumbers s
  pub execs : HasExecs s
  pub going : CanGoOn s
  pub ranges : IsInRange s
