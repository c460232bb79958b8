use Rattle.std.proofs.Common.{◌≡◌, ◌==◌, ◌+◌, ◌≤◌, ◌++◌, not, filter, length, vec_len, vec_capacity}
use Rattle.std.specs.List.Sorted.{IsStrictlySortedBy}
use Rattle.exec_table.specs.ExecsInside.{by_row, execs_in, outputs_in, owned_in, IsIndex}
use Rattle.exec_table.proofs.removal.move_all.Given as goal

abbrev pub invariant-loop-left : goal.invariant-loop-left
invariant-loop-left l = record {
  order : IsStrictlySortedBy by_row l.rows.items;
  ids : IsIndex (execs_in l.rows.items) l.ids.items;
  owned : l.owned.items ≡ owned_in (execs_in l.rows.items);
  stay : filter (λ r. not (r.exec.container == l.container)) l.rows.items ≡ filter (λ r. not (r.exec.container == l.container)) l.initial.rows.items;
  go : l.into.items ++ outputs_in (filter (λ r. r.exec.container == l.container) l.rows.items) ≡ l.initial.into.items ++ outputs_in (filter (λ r. r.exec.container == l.container) l.initial.rows.items);
  left : l.left ≡ length (filter (λ r. r.exec.container == l.container) l.rows.items);
  room : l.left + vec_len l.into ≤ vec_capacity l.into;
  rows_places : l.rows.places ≡ l.initial.rows.places;
  ids_places : l.ids.places ≡ l.initial.ids.places;
  owned_places : l.owned.places ≡ l.initial.owned.places;
}

abbrev pub decreases-loop-left : goal.decreases-loop-left
decreases-loop-left l = l.left
