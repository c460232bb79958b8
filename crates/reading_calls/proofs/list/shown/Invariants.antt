use Rattle.std.proofs.Common.{◌≡◌, ◌≤◌, ◌++◌, length, take}
use Rattle.machine_model.specs.Calls.List.{is_shown}
use Rattle.reading_calls.proofs.ListedLemmas.{IsWithin, listed_in}
use Rattle.reading_calls.proofs.list.shown.Given as goal

-- with those that are left, the list is whole
abbrev pub invariant-older : goal.invariant-older
invariant-older l = record {
  low : l.left ≤ length l.tables.state.containers;
  within : IsWithin l.limit (length l.items.items);
  whole : listed_in (is_shown l.all l.rows) l.tables.state.containers
      ≡ l.items.items ++ listed_in (is_shown l.all l.rows) (take l.left l.tables.state.containers);
}

abbrev pub decreases-older : goal.decreases-older
decreases-older l = l.left
