-- own: the memory that a removal may want, prepared.
use Rattle.std.specs.Prelude.{◌≡◌, ℕ, ◌+◌, ◌≤◌, [], Option, length, vec_capacity}
use Rattle.engine_text.specs.Scripts.{Program}
use Rattle.machine_model.specs.State.{State}
use Rattle.machine_events.specs.Fit.{exec_numbers, outputs_of}
use Rattle.machine_events.specs.declared.end_memory.EndMemory.{EndMemory}

-- The script, the numbers of the container's execs, and room for its log and their outputs.
pub record IsEndMemoryOf (n : ℕ) (launch : Option Program) (s : State) (brought : EndMemory) : Type 0 where
  pub script : brought.script ≡ launch
  pub numbers : brought.execs ≡ exec_numbers n s
  pub empty : brought.logs.items ≡ []
  pub logs : length (outputs_of n s) + 1 ≤ vec_capacity brought.logs
