use Rattle.std.proofs.Common.{take}
use Rattle.engine_text.specs.Mounts.{AreMountsUtf8}
use Rattle.engine_text.proofs.mounts.Mounts.from_vec.Given as goal

abbrev pub invariant-items : goal.invariant-items
invariant-items l = AreMountsUtf8 (take l.item-index l.item-items)
