use Rattle.std.proofs.Common.{◌≡◌, ◌++◌, map, take, drop}
use Rattle.volume_table.specs.VolumesInside.{moved_up}
use Rattle.volume_table.proofs.references.move_up.Given as goal

abbrev pub invariant-references : goal.invariant-references
invariant-references l = l.r-items ≡ map (moved_up l.from) (take l.r-index l.initial.r-items) ++ drop l.r-index l.initial.r-items
