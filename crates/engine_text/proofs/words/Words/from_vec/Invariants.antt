use Rattle.std.proofs.Common.{take}
use Rattle.engine_text.specs.Words.{AreUtf8}
use Rattle.engine_text.proofs.words.Words.from_vec.Given as goal

abbrev pub invariant-items : goal.invariant-items
invariant-items l = AreUtf8 (take l.item-index l.item-items)
