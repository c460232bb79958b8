use Rattle.std.proofs.lemmas.List.Elements.{All-nil, All-same}
use Rattle.volume_table.specs.VolumesInside.{IsWithin}
use Rattle.volume_table.proofs.OrderLemmas.{sorted_none}
use Rattle.volume_table.proofs.volumes.Volumes.new.Goals as goal

pub invariant_of-result : goal.invariant_of-result
invariant_of-result c = record {
  ordered = sorted_none _ c.new.ensures.items;
  within = All-same (IsWithin c.new.result.items) _ _ c.new-2.ensures.items (All-nil (IsWithin c.new.result.items));
}
