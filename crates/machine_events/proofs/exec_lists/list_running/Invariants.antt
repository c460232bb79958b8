use Rattle.std.proofs.Common.{◌≡◌, ◌+◌, ◌≤◌, ◌++◌, length, map, filter, vec_len, vec_capacity}
use Rattle.machine_events.specs.Running.{is_alive, is_running}
use Rattle.engine_text.specs.declared.exec.Exec.{Exec}
use Rattle.machine_events.proofs.exec_lists.list_running.Given as goal

abbrev pub invariant-loop-x : goal.invariant-loop-x
invariant-loop-x l = record {
  iterator : (goal.iterator-loop-x).can_next l.x-iterator × (goal.iterator-loop-x).is_finite l.x-iterator;
  items : l.into.items ++ map (λ (x : Exec). x.number) (filter (is_alive l.kernel.processes) l.x-iterator) ≡ map (λ (x : Exec). x.number) (filter (is_running l.number l.kernel.processes) l.execs.execs);
  few : vec_len l.into + length l.x-iterator ≤ vec_capacity l.into;
  capacity : vec_capacity l.into ≡ vec_capacity l.fn.into;
}
