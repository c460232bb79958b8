use Rattle.std.proofs.Common.{◌≡◌, ◌<◌, ◌≤◌, ◌+◌, length, filter, drop}
use Rattle.reading_calls.specs.LogParts.{selects}
use Rattle.reading_calls.proofs.selection.from_end.Given as goal

abbrev pub invariant-loop-place : goal.invariant-loop-place
invariant-loop-place l = record {
  within : l.place ≤ length l.log;
  some : 0 < l.left;
  counted : length (filter (selects l.ask) (drop l.place l.log)) + l.left ≡ l.n;
}

abbrev pub decreases-loop-place : goal.decreases-loop-place
decreases-loop-place l = l.place
