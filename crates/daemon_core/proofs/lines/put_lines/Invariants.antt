use Rattle.std.proofs.Common.{◌≡◌, ◌<◌, ◌≤◌, ◌-◌, ◌∷◌, ◌++◌, drop, length, take}
use Rattle.machine_model.specs.EventLines.{lines_of}
use Rattle.daemon_core.proofs.lines.put_lines.Given as goal

abbrev pub invariant-lines : goal.invariant-lines
invariant-lines l = record {
  some : 0 < l.passed;
  fits : l.passed ≤ length (l.fn.first ∷ l.fn.rest);
  left : drop l.passed (l.fn.first ∷ l.fn.rest) ≡ l.rest;
  told : l.out.items ≡ l.fn.out.items ++ lines_of l.fn.filter l.fn.until (take l.passed (l.fn.first ∷ l.fn.rest));
}

abbrev pub decreases-lines : goal.decreases-lines
decreases-lines l = 4096 - l.passed
