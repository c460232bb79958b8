use Rattle.std.proofs.Common.{◌≡◌, map, take}
use Rattle.lab_line.proofs.read.lent.Given as goal

abbrev pub invariant-loop-word : goal.invariant-loop-word
invariant-loop-word l = map (λ w. w.now) l.lent.items ≡ take l.word-index l.words
