use Rattle.std.proofs.Common.{◌≡◌, take}
use Rattle.daemon_core.proofs.telling.with_lines.Given as goal

abbrev pub invariant-loop-event : goal.invariant-loop-event
invariant-loop-event l = l.lines.items ≡ take l.event-index l.events
