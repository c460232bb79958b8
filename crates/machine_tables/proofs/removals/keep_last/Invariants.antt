use Rattle.std.proofs.Common.{◌≡◌, vec_len, vec_capacity}
use Rattle.container_table.specs.Lists.{last_of}
use Rattle.machine_tables.proofs.removals.keep_last.Given as goal

abbrev pub invariant-loop-logs : goal.invariant-loop-logs
invariant-loop-logs l = record {
  items : last_of 64 l.logs.items ≡ last_of 64 l.initial.logs.items;
  capacity : vec_capacity l.logs ≡ vec_capacity l.initial.logs;
}

abbrev pub decreases-loop-logs : goal.decreases-loop-logs
decreases-loop-logs l = vec_len l.logs
