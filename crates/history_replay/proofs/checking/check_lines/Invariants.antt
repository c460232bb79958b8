use Rattle.std.proofs.Common.{◌≤◌, ◌+◌, length}
use Rattle.journal_lines.specs.JournalLines.{format_of}
use Rattle.journal_lines.specs.Verdict.{IsVerdictFrom}
use Rattle.journal_lines.specs.declared.verdict.Verdict.{Verdict}
use Rattle.history_replay.specs.Checking.{IsMade}
use Rattle.history_replay.specs.Standing.{Standing}
use Rattle.history_replay.proofs.checking.check_lines.Given as goal

abbrev pub invariant-lines : goal.invariant-lines
invariant-lines g l = record {
  said : (v : Verdict) → IsVerdictFrom (format_of l.fn.format) (g.M.Replays.standing l.machine).state l.line l.rest v
      → IsVerdictFrom (format_of l.fn.format) (g.M.Replays.standing l.fn.machine).state l.fn.first l.fn.text v;
  made : (end : Standing) (v : Verdict) → IsMade (format_of l.fn.format) (g.M.Replays.standing l.machine) l.rest end v
      → IsMade (format_of l.fn.format) (g.M.Replays.standing l.fn.machine) l.fn.text end v;
  counted : l.line + length l.rest ≤ length l.fn.text + l.fn.first;
}

abbrev pub decreases-lines : goal.decreases-lines
decreases-lines g l = length l.rest
