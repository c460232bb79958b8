use Rattle.std.proofs.Common.{◌≡◌, ◌++◌, take}
use Rattle.daemon_core.specs.Framing.{asked_bytes}
use Rattle.daemon_core.proofs.frames.put_records.Given as goal

abbrev pub invariant-loop-item : goal.invariant-loop-item
invariant-loop-item l =
    (l.passed ≡ l.item-index) × (l.out.items ≡ l.fn.out.items ++ asked_bytes l.fn.spec (take l.item-index l.fn.records))
