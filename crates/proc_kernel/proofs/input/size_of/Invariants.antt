use Rattle.std.proofs.Common.{◌≡◌, map}
use Rattle.proc_kernel.specs.InputInside.{told_size}
use Rattle.proc_kernel.proofs.input.size_of.Given as goal

abbrev pub invariant-loop-piece : goal.invariant-loop-piece
invariant-loop-piece l = l.size ≡ told_size (map (λ r. r.now) l.yielded)
