use Rattle.history_replay.specs.Checking.{charter_of}
use Rattle.history_replay.proofs.UpgradeLemmas.{as_it_stands}
use Rattle.history_replay.proofs.upgrading.in_second.Goals as goal

pub returns-in-Some : goal.returns-in-Some
returns-in-Some c =
    as_it_stands (charter_of c.args.seed c.args.moment) c.args.text.now c.requires.legal.0 c.of.result c.requires.legal.1
    (c.in-Some.field-0.0.seed, c.in-Some.field-0.0.opening, c.in-Some.field-0.1.now, rw c.in-Some.is at c.in_ok-head_of.ensures.header, rw c.in-Some.is at c.in_ok-head_of.ensures.whole) c.of.ensures
