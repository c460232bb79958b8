use Rattle.std.proofs.Common.{◌≡◌, length}
use Rattle.engine_text.specs.Soundness.{are_labels}
use Rattle.journal_lines.proofs.sound.rising.are_labels.Given as goal

abbrev pub invariant-pairs : goal.invariant-pairs
invariant-pairs l = are_labels l.rest ≡ are_labels l.fn.pairs

abbrev pub decreases-pairs : goal.decreases-pairs
decreases-pairs l = length l.rest
