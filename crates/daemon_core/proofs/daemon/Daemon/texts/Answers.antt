use Rattle.daemon_core.proofs.DaemonLemmas.{told_of}
use Rattle.daemon_core.proofs.EntryLemmas.{texts_of}
use Rattle.daemon_core.specs.Passing.{charter}
use Rattle.daemon_core.proofs.daemon.Daemon.texts.Goals as goal

pub returns : goal.returns
returns c =
    let d = c.args.self.now in
    texts_of (charter d) d.stored.journal (told_of d).entries c.texts.ensures
