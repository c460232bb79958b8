use Rattle.std.proofs.Common.{take}
use Rattle.engine_text.specs.Filter.{AreRowsUtf8}
use Rattle.engine_text.proofs.filter.Filter.from_vec.Given as goal

abbrev pub invariant-items : goal.invariant-items
invariant-items l = AreRowsUtf8 (take l.item-index l.item-items)
