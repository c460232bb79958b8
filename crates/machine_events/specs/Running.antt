-- own: which execs of a container run, told by the kernel's table.
use Rattle.std.specs.Prelude.{ℕ, ◌==◌, ◌&&◌, Bool, List}
use Rattle.engine_text.specs.declared.exec.Exec.{Exec}
use Rattle.engine_text.specs.declared.owner.Owner.TheVariants.{Exec as OfExec}
use Rattle.proc_kernel.specs.Tables.{Entry, process_of, is_there}

-- Whether its process lives.
abbrev pub is_alive : List Entry → Exec → Bool
is_alive processes x = is_there (process_of (OfExec x.number) processes)

-- Whether it is the container's and its process lives.
abbrev pub is_running : ℕ → List Entry → Exec → Bool
is_running n processes x = (x.container == n) && is_alive processes x
