-- own: what a prepared call needs of the tables, what it brings for that, and how much room it wants.
use Rattle.std.specs.Prelude.{◌≡◌, ℕ, ◌+◌, ◌<◌, ◌≤◌, List, Option, Some, None, ⊤, length}
use Rattle.engine_text.specs.Scripts.{Program}
use Rattle.engine_text.specs.declared.container.Container.{Container}
use Rattle.engine_text.specs.declared.exec.Exec.{Exec}
use Rattle.engine_text.specs.declared.ticket.Asked.{Asked}
use Rattle.engine_text.specs.declared.volume.Volume.{Volume}
use Rattle.machine_model.specs.Calls.Create.{volume_named}
use Rattle.machine_model.specs.Chain.{Effect}
use Rattle.machine_model.specs.Names.{holder}
use Rattle.machine_model.specs.State.{State}
use Rattle.machine_model.specs.Step.{at_moment}
use Rattle.machine_model.specs.Tickets.{begun}
use Rattle.machine_events.specs.ExecStarts.{CanSpawn}
use Rattle.machine_events.specs.Fit.{AreTimely, CanEndAs, CanEndBy, CanLaunch, CanRemove, IsScriptOf}
use Rattle.machine_events.specs.Halts.{HasHaltRoom}
use Rattle.machine_events.specs.EndMemories.{IsEndMemoryOf}
use Rattle.machine_events.specs.ChangedLives.{changed_life}
use Rattle.machine_events.specs.Memory.{Memory, HasRoom}
use Rattle.machine_events.specs.NewExecs.{CanAddExec, HasExecRoom}
use Rattle.machine_events.specs.NewVolumes.{CanAdd, HasAddRoom}
use Rattle.machine_events.specs.Removing.{HasRemovalRoom}
use Rattle.machine_events.specs.Tickets.{CanBegin}
use Rattle.machine_events.specs.declared.end_memory.EndMemory.{EndMemory}
use Rattle.container_table.specs.declared.life_change.LifeChange.{LifeChange}
use Rattle.call_plans.specs.Calls.Create.{IsNew}
use Rattle.call_plans.specs.Calls.Execs.{IsNewExec}
use Rattle.call_plans.specs.Calls.Volumes.{CanMakeVolume, CanRemoveVolume, HasVolumeRoom}
use Rattle.call_plans.specs.RunEnds.{ServesAs, ServesBy}
use Rattle.call_plans.specs.declared.space.Space.{Space}

-- What a call needs. A run is that of the container with a number, and ends by an effect with the memory that is brought; the signal
-- is the one that the call names, if it names one.
pub data Need : Type 0 where
  Nothing : Need
  -- that nobody has a name; that a volume stands without use
  FreeName : List ℕ → Need
  Unused : List ℕ → Need
  -- the end of a run; and behind the ticket of a connection, with what its call notes
  End : ℕ → Option ℕ → (State → Effect) → EndMemory → Need
  TicketEnd : ℕ → ℕ → Asked → LifeChange → Option ℕ → (State → Effect) → EndMemory → Need
  -- the launch of a container with a script; its removal with memory for it
  Launch : ℕ → Option Program → Need
  Removal : ℕ → EndMemory → Need
  -- a ticket; a list of running execs; a process, or a piece of input
  Ticket : Need
  Listing : Need
  Process : Need
  -- a container more with the volumes that it makes, an exec more, a volume more
  NewContainer : Container → List Volume → Need
  NewExec : Exec → Need
  NewVolume : List ℕ → Need

-- ---- the tables stand as it needs them

-- A signal that is named is one below 32.
abbrev pub IsLow : Option ℕ → Type 0
IsLow None = ⊤
IsLow (Some signal) = signal < 32

-- The run may end by the effect.
pub record CanEndRun (n : ℕ) (sent : Option ℕ) (e : State → Effect) (brought : EndMemory) (m : Memory) : Type 0 where
  pub signal : IsLow sent
  pub timely : AreTimely m.state
  pub room : length m.state.execs ≤ m.room.scratch
  pub end : CanEndBy e n brought m.room m.state
  pub spare : 0 < m.spare

-- So it may behind the ticket, with what its call notes, and there is room for a deadline before that end.
pub record CanEndFor (connection n : ℕ) (asked : Asked) (noted : LifeChange) (sent : Option ℕ) (e : State → Effect) (brought : EndMemory) (m : Memory) : Type 0 where
  pub signal : IsLow sent
  pub begin : CanBegin m
  pub timely : AreTimely m.state
  pub room : length m.state.execs ≤ m.room.scratch
  pub timers : length m.state.timers + 1 < m.room.timers
  pub end : CanEndAs (changed_life noted) e n brought m.room (begun connection n asked m.state)
  pub spare : 0 < m.spare

-- The container may be launched, and there is room for its process.
pub record CanStart (n : ℕ) (script : Option Program) (m : Memory) : Type 0 where
  pub launch : CanLaunch n script m.state
  pub spare : 0 < m.spare

-- By what is needed.
abbrev pub Fits : Need → Memory → Type 0
Fits Nothing m = ⊤
Fits (FreeName name) m = holder name m.state.containers ≡ None
Fits (Unused name) m = CanRemoveVolume name m.state
Fits (End n sent e brought) m = CanEndRun n sent e brought m
Fits (TicketEnd connection n asked noted sent e brought) m = CanEndFor connection n asked noted sent e brought m
Fits (Launch n script) m = CanStart n script m
Fits (Removal n brought) m = CanRemove n brought m.room m.state
Fits Ticket m = CanBegin m
Fits Listing m = length m.state.execs ≤ m.room.scratch
Fits Process m = CanSpawn m
Fits (NewContainer c made) m = CanAdd c made m
Fits (NewExec x) m = CanAddExec x m
Fits (NewVolume name) m = CanMakeVolume name m

-- ---- what a call brings for it

-- It fits the state at that moment.
abbrev pub Brings : Need → ℕ → State → Type 0
Brings Nothing t s = ⊤
Brings (FreeName name) t s = holder name s.containers ≡ None
Brings (Unused name) t s = CanRemoveVolume name s
Brings (End n sent e brought) t s = ServesBy e n brought (at_moment t s) × IsLow sent
Brings (TicketEnd connection n asked noted sent e brought) t s =
    ServesAs (changed_life noted) e n brought (begun connection n asked (at_moment t s)) × IsLow sent
Brings (Launch n script) t s = IsScriptOf n script s
Brings (Removal n brought) t s = IsEndMemoryOf n None s brought
Brings Ticket t s = ⊤
Brings Listing t s = ⊤
Brings Process t s = ⊤
Brings (NewContainer c made) t s = IsNew c made t s
Brings (NewExec x) t s = IsNewExec x s
Brings (NewVolume name) t s = volume_named name s ≡ None

-- ---- the room that it wants

-- How much that is.
abbrev pub space_of : Need → Space
space_of Nothing = Space.Nothing
space_of (FreeName name) = Space.Nothing
space_of (Unused name) = Space.Nothing
space_of (End n sent e brought) = Space.End
space_of (TicketEnd connection n asked noted sent e brought) = Space.TicketEnd
space_of (Launch n script) = Space.End
space_of (Removal n brought) = Space.Removal
space_of Ticket = Space.Ticket
space_of Listing = Space.End
space_of Process = Space.Process
space_of (NewContainer c made) = Space.Container (length c.life.mounts)
space_of (NewExec x) = Space.Exec
space_of (NewVolume name) = Space.Volume

-- There is so much.
abbrev pub HasSpace : Space → Memory → Type 0
HasSpace Space.Nothing m = ⊤
HasSpace Space.End m = HasRoom m
HasSpace Space.TicketEnd m = HasHaltRoom m
HasSpace Space.Removal m = HasRemovalRoom m
HasSpace Space.Ticket m = length m.state.tickets < m.room.tickets
HasSpace Space.Process m = 0 < m.spare
HasSpace (Space.Container mounts) m = HasAddRoom mounts m
HasSpace Space.Exec m = HasExecRoom m
HasSpace Space.Volume m = HasVolumeRoom m
