-- own: the least of what is due, found one after the other.
use Rattle.std.specs.Prelude.{ℕ, if◌then◌else◌, List, Option, Some, None}
use Rattle.std.specs.List.{filter_map}
use Rattle.container_table.specs.Dues.{with_due}
use Rattle.container_table.specs.Timers.{is_before}
use Rattle.engine_text.specs.declared.owner.Owner.{Owner}
use Rattle.engine_text.specs.declared.step.DueAction.{DueAction}
use Rattle.proc_kernel.specs.Processes.{next_due}
use Rattle.proc_kernel.specs.Tables.{Entry}
use Rattle.machine_model.specs.Due.{action_at}
use Rattle.machine_model.specs.State.{owner_number}

-- The op that is due of a process, if it is due.
abbrev pub action_of : Entry → Option DueAction
action_of e = action_at (owner_number e.owner) (next_due e.process)

-- The ops that are due of these.
abbrev pub actions_of : List Entry → List DueAction
actions_of = filter_map action_of

-- Those in order with the next op of the owner's process, if it is due.
abbrev pub with_due_at : Owner → Option ℕ → List DueAction → List DueAction
with_due_at owner None ds = ds
with_due_at owner (Some moment) ds = with_due (record { moment = moment; rank = 0; number = owner_number owner }) ds

-- The lesser of the best so far and another.
abbrev pub nearer : Option DueAction → DueAction → Option DueAction
nearer None d = Some d
nearer (Some best) d = Some (if is_before d best then d else best)

-- The lesser of two that may be there.
abbrev pub lesser : Option DueAction → Option DueAction → Option DueAction
lesser best None = best
lesser best (Some d) = nearer best d
