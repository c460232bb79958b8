-- own: what stands inside of the processes with their next due moments.
use Rattle.std.specs.Prelude.{◌≡◌, ◌+◌, ◌≤◌, length}
use Rattle.container_table.specs.Order.{in_order}
use Rattle.container_table.specs.Timers.{is_before}
use Rattle.proc_kernel.specs.Tables.{Table}
use Rattle.machine_tables.specs.LeastDue.{actions_of}
use Rattle.machine_tables.specs.declared.processes.Processes.TheInside.{Inside}

-- The processes, and how many records have spare room, of so many bytes each.
abbrev pub processes_of : Inside → Table
processes_of m = record { processes = m.kernel.processes; spare = m.spare; bytes = m.kernel.bytes }

-- The next due moments are those of the processes, in order; the room that is told is there, and each process has a place for its own.
pub record AreTimed (m : Inside) : Type 0 where
  pub dues : m.dues.actions ≡ in_order is_before (actions_of m.kernel.processes)
  pub spare : m.spare ≤ m.kernel.spare
  pub places : length m.kernel.processes + m.spare ≤ m.dues.places
