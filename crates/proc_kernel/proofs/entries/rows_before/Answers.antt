use Rattle.std.proofs.Common.{rules}
use Rattle.std.proofs.lemmas.List.Sorted.{IsPartitionPoint-from_clause}
use Rattle.proc_kernel.specs.Entries.{stands_before}
use Rattle.proc_kernel.proofs.EntryLemmas.{parted_by_owner}
use Rattle.proc_kernel.proofs.entries.rows_before.Goals as goal

pub returns-clause-point : goal.returns-clause-point
returns-clause-point c =
    let parted = parted_by_owner c.args.rows.now c.args.row c.requires in
    IsPartitionPoint-from_clause (λ r. stands_before r c.args.row) _ _ c.partition_point.ensures.partitioned parted (λ a r q k. search rules)
