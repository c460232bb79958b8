use Rattle.std.proofs.Common.{◌≡◌, ◌==◌, ◌++◌, map, filter}
use Rattle.engine_text.specs.declared.exec.Exec.{Exec}
use Rattle.machine_events.proofs.exec_lists.numbers_of.Given as goal

abbrev pub invariant-loop-x : goal.invariant-loop-x
invariant-loop-x l = record {
  iterator : (goal.iterator-loop-x).can_next l.x-iterator × (goal.iterator-loop-x).is_finite l.x-iterator;
  items : l.numbers ++ map (λ (x : Exec). x.number) l.x-iterator ≡ map (λ (x : Exec). x.number) (filter (λ (x : Exec). x.container == l.number) l.execs.execs);
}
