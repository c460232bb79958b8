-- own: what is made ready for the end of a container's main process, where a step ends it.
use Rattle.std.specs.Prelude.{◌≡◌, ℕ, ◌+◌, ◌≤◌, [], Option, Some, None, length, vec_capacity}
use Rattle.engine_text.specs.declared.container.Container.{Container}
use Rattle.engine_text.specs.declared.container.Goal.{Goal}
use Rattle.engine_text.specs.declared.container.Life.{Life}
use Rattle.engine_text.specs.declared.owner.Owner.{Owner}
use Rattle.engine_text.specs.declared.owner.Owner.TheVariants.{Container as OfContainer, Exec as OfExec}
use Rattle.machine_model.specs.State.{State, change_life, container_numbered}
use Rattle.machine_model.specs.Chain.{Effect}
use Rattle.machine_events.specs.Fit.{HasEnded, IsNextScript, exec_numbers, next_script, outputs_of}
use Rattle.machine_events.specs.EndMemories.{IsEndMemoryOf}
use Rattle.machine_events.specs.declared.end_memory.EndMemory.{EndMemory}

-- Made ready for the end of the container's main process with that code, its goal being that then: without a code no script.
abbrev pub IsEndMemory : Option ℕ → Goal → ℕ → Container → State → EndMemory → Type 0
IsEndMemory None goal n c s brought = brought.script ≡ None
IsEndMemory (Some code) goal n c s brought = IsEndMemoryOf n (next_script goal c) s brought

-- Made ready for the end of the owner's process with that code, if its container stands: for that of an exec no script.
abbrev pub IsOwnerMemory : Option ℕ → Owner → State → EndMemory → Type 0
IsOwnerMemory code (OfContainer n) s brought =
    (c : Container) → container_numbered n s ≡ Some c → IsEndMemory code c.life.goal n c s brought
IsOwnerMemory code (OfExec n) s brought = brought.script ≡ None

-- The memory that it brings is what the end of the container's main process wants.
pub record Serves (n : ℕ) (brought : EndMemory) (s : State) : Type 0 where
  pub named : IsNextScript n brought.script s
  pub numbers : brought.execs ≡ exec_numbers n s
  pub empty : brought.logs.items ≡ []
  pub logs : length (outputs_of n s) + 1 ≤ vec_capacity brought.logs

-- So it is where the effect ends that process.
abbrev pub ServesBy : (State → Effect) → ℕ → EndMemory → State → Type 0
ServesBy e n brought s = HasEnded (e s).died → Serves n brought s

-- The same with the life that the effect gives the container before that end.
abbrev pub ServesAs : (Life → Life) → (State → Effect) → ℕ → EndMemory → State → Type 0
ServesAs life_change e n brought s = HasEnded (e s).died → Serves n brought (change_life n life_change s)
