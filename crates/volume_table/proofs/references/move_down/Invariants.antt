use Rattle.std.proofs.Common.{◌≡◌, ◌++◌, map, take, drop}
use Rattle.volume_table.specs.VolumesInside.{moved_down}
use Rattle.volume_table.proofs.references.move_down.Given as goal

abbrev pub invariant-references : goal.invariant-references
invariant-references l = l.r-items ≡ map (moved_down l.from) (take l.r-index l.initial.r-items) ++ drop l.r-index l.initial.r-items
