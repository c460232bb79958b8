use Rattle.std.proofs.Common.{rules, nat_lt}
use Rattle.std.proofs.lemmas.List.Sorted.{IsPartitionPoint-from_clause}
use Rattle.proc_kernel.proofs.EntryLemmas.{parted_by_turn}
use Rattle.proc_kernel.proofs.entries.rows_born_before.Goals as goal

pub returns-clause-point : goal.returns-clause-point
returns-clause-point c =
    let parted = parted_by_turn c.args.rows.now c.args.turn c.requires in
    IsPartitionPoint-from_clause (λ r. nat_lt r.born c.args.turn) _ _ c.partition_point.ensures.partitioned parted (λ a r q k. search rules)
