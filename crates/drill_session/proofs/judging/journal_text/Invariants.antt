use Rattle.std.proofs.Common.{◌≡◌, ◌≤◌, ◌-◌, length, take}
use Rattle.journal_lines.specs.JournalLines.{lines_of}
use Rattle.journal_lines.proofs.LineLemmas.{joined}
use Rattle.daemon_core.specs.Keeping.{history_of}
use Rattle.daemon_core.specs.Passing.{charter}
use Rattle.drill_session.proofs.judging.journal_text.Given as goal

abbrev pub invariant-lines : goal.invariant-lines
invariant-lines l =
    let lines = lines_of (charter l.daemon) (history_of l.daemon.stored.journal) in
    (l.text.items ≡ joined (take l.number lines)) × (l.number ≤ length lines)

abbrev pub decreases-lines : goal.decreases-lines
decreases-lines l = length (lines_of (charter l.daemon) (history_of l.daemon.stored.journal)) - l.number
