use Rattle.std.proofs.Common.{take}
use Rattle.engine_text.specs.Pairs.{ArePairsUtf8}
use Rattle.engine_text.proofs.pairs.Pairs.from_vec.Given as goal

abbrev pub invariant-items : goal.invariant-items
invariant-items l = ArePairsUtf8 (take l.item-index l.item-items)
