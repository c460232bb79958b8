use Rattle.history_replay.specs.Checking.{charter_of}
use Rattle.history_replay.proofs.VerdictLemmas.{behind_head, without_head}
use Rattle.history_replay.proofs.checking.check.Goals as goal

pub returns-in-Some : goal.returns-in-Some
returns-in-Some c =
    behind_head (charter_of c.args.seed c.args.opening) c.in-Some.header.seed c.in-Some.header.opening c.args.text.now c.in-Some.lines.now c.check_from.result
    (rw c.in-Some.is at c.in_ok-header.ensures.header) (rw c.in-Some.is at c.in_ok-header.ensures.whole) c.check_from.ensures

pub returns-in-None : goal.returns-in-None
returns-in-None c =
    without_head (charter_of c.args.seed c.args.opening) c.args.text.now c.check_from-in-None.result (rw c.in-None.is at c.in_ok-header.ensures.none) c.check_from-in-None.ensures
