use Rattle.std.proofs.Common.{◌<◌, ap, ◌∙◌, arith, length}
use Rattle.container_table.specs.Lists.{last_of}
use Rattle.machine_tables.proofs.LastLemmas.{last_removed}
use Rattle.machine_tables.proofs.removals.keep_last.Goals as goal

pub loop-logs-preserved : goal.loop-logs-preserved
loop-logs-preserved c =
    let many : 64 < length c.loop-logs.logs.items = omega arith in
    record {
      items = ap (last_of 64) c.remove-oldest.ensures.items ∙ (last_removed 64 c.loop-logs.logs.items many ∙ c.loop-logs.invariant.items);
      capacity = c.remove-oldest.ensures.capacity ∙ c.loop-logs.invariant.capacity;
    }
