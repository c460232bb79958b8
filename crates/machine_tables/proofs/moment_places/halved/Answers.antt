use Rattle.std.proofs.Common.{rules, nat_lt, arith}
use Rattle.std.proofs.lemmas.List.Sorted.{IsPartitionPoint-from_clause}
use Rattle.machine_tables.proofs.MomentPlaceLemmas.{parted, pointed}
use Rattle.machine_tables.proofs.moment_places.halved.Goals as goal

pub returns-clause-place : goal.returns-clause-place
returns-clause-place c =
    pointed c.args.moment c.partition_point.result c.args.moments.now.items (omega (arith, c.partition_point.ensures.bound))
    (IsPartitionPoint-from_clause (λ m. nat_lt m c.args.moment) _ _ c.partition_point.ensures.partitioned
    (parted c.args.moment c.args.moments.now.items c.requires) (λ a r q k. search rules))
