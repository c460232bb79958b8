use Rattle.std.proofs.Common.{◌∙◌, sym}
use Rattle.daemon_core.specs.Keeping.{history_of}
use Rattle.daemon_core.specs.Passing.{charter}
use Rattle.daemon_core.proofs.CountLemmas.{bits_count}
use Rattle.daemon_core.proofs.KeepLemmas.{history_counted}
use Rattle.daemon_core.proofs.daemon.Daemon.steps.Goals as goal

pub returns-clause-count : goal.returns-clause-count
returns-clause-count c = c.steps.ensures ∙ sym (history_counted c.args.self.now.stored.journal)

pub returns-clause-stored : goal.returns-clause-stored
returns-clause-stored c =
    let d = c.args.self.now in
    (d.legal, bits_count (charter d) (history_of d.stored.journal) d.legal)
