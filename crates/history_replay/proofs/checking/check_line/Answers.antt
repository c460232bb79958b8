use Rattle.journal_lines.specs.JournalLines.{format_of, journal_line}
use Rattle.history_replay.specs.Standing.{Standing}
use Rattle.history_replay.proofs.VerdictLemmas.{line_said, bad_bytes}
use Rattle.history_replay.proofs.checking.check_line.Goals as goal

pub returns-in-Ok : goal.returns-in-Ok
returns-in-Ok g c =
    let s : Standing = g.M.Replays.standing c.args.machine.now in
    let format = format_of c.args.format in
    line_said format s _ c.args.line (journal_line format c.in-Ok.entry) c.args.bytes.now c.say_once.result c.in-Ok.ensures.taken.1 (c.say_once.ensures format)

pub returns-in-Err-BadLine : goal.returns-in-Err-BadLine
returns-in-Err-BadLine g c =
    let s : Standing = g.M.Replays.standing c.args.machine.now in
    bad_bytes (format_of c.args.format) s c.args.line c.args.bytes.now s c.in-Err-BadLine.field-0 c.requires.first c.in-Err-BadLine.ensures.refused c.in-Err-BadLine.field-0-is
