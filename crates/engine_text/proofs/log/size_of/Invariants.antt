use Rattle.std.proofs.Common.{◌≡◌, take}
use Rattle.engine_text.specs.Logs.{told_size}
use Rattle.engine_text.proofs.log.size_of.Given as goal

abbrev pub invariant-loop-item : goal.invariant-loop-item
invariant-loop-item l = l.size ≡ told_size (take l.item-index l.records)
