use Rattle.std.proofs.Common.{refl, subst}
use Rattle.engine_text.specs.declared.entry.Entry.{Entry}
use Rattle.journal_lines.specs.JournalLines.{journal_line}
use Rattle.history_replay.specs.Checking.{IsSaid}
use Rattle.history_replay.specs.Standing.{Standing}
use Rattle.history_replay.proofs.VerdictLemmas.{wrong_line}
use Rattle.history_replay.proofs.checking.say.Goals as goal

pub returns-in-Wrong : goal.returns-in-Wrong
returns-in-Wrong g c =
    let s : Standing = g.M.Replays.standing c.args.machine.now in
    let e : Entry = c.args.entry.now in
    let wrong = subst (IsSaid s e (g.M.Replays.standing c.check_entry.new.machine)) c.in-Wrong.is c.in_ok-check_entry.ensures in
    λ format rest. wrong_line format s.state c.args.line e (journal_line format e) rest c.in-Wrong.kept c.in-Wrong.found c.requires refl wrong
