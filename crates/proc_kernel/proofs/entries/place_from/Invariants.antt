use Rattle.std.proofs.Common.{◌≡◌, ◌<◌, ℕ, false, get_or}
use Rattle.proc_kernel.specs.declared.entries.Row.{Row}
use Rattle.engine_text.specs.Owner.{same_owner}
use Rattle.proc_kernel.proofs.entries.place_from.Given as goal

-- none before the place that comes next
abbrev pub invariant-loop-i : goal.invariant-loop-i
invariant-loop-i l = (k : ℕ) (d : Row) → k < l.i → same_owner (get_or l.rows k d).owner l.owner ≡ false
