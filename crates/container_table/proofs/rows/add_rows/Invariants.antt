use Rattle.std.proofs.Common.{◌≡◌, ◌-◌, ◌^◌, ◌<◌, ◌≤◌, vec_len}
use Rattle.container_table.specs.Rows.{joined, AreRows}
use Rattle.container_table.proofs.rows.add_rows.Given as goal

abbrev pub invariant-loop-alloc : goal.invariant-loop-alloc
invariant-loop-alloc g l =
    record {
      rows : AreRows l.rows.items;
      items : joined l.rows.items ≡ joined l.initial.rows.items;
      few : vec_len l.rows < 2 ^ 53;
      len : vec_len l.initial.rows ≤ vec_len l.rows;
    }

abbrev pub decreases-loop-alloc : goal.decreases-loop-alloc
decreases-loop-alloc g l = l.count - vec_len l.rows
