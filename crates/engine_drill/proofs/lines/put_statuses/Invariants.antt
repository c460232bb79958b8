use Rattle.std.proofs.Common.{◌≡◌, ◌++◌, take}
use Rattle.std.specs.Prelude.{string_bytes}
use Rattle.drill_model.specs.Report.{status_lines}
use Rattle.engine_drill.proofs.lines.put_statuses.Given as goal

abbrev pub invariant-loop-status : goal.invariant-loop-status
invariant-loop-status l = string_bytes l.out ≡ string_bytes l.fn.out ++ status_lines 0 (take l.status l.counts)
