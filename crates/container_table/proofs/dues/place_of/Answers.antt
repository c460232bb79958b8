use Rattle.std.proofs.Common.{rules, arith}
use Rattle.std.proofs.lemmas.List.Sorted.{IsPartitionPoint-from_clause}
use Rattle.container_table.specs.Timers.{is_before}
use Rattle.container_table.proofs.DueLemmas.{is_parted, parts_at}
use Rattle.container_table.proofs.dues.place_of.Goals as goal

pub returns-clause-place : goal.returns-clause-place
returns-clause-place c =
    parts_at c.args.action.now c.args.list.now.items c.partition_point.result (omega (arith, c.partition_point.ensures.bound))
    (IsPartitionPoint-from_clause (λ d. is_before d c.args.action.now) _ _ c.partition_point.ensures.partitioned
    (is_parted c.args.action.now c.args.list.now.items c.requires) (λ a r q k. search rules))
