use Rattle.std.proofs.Common.{[], append-nil, refl, sym}
use Rattle.daemon_core.specs.Keeping.{history_of}
use Rattle.daemon_shared.proofs.journal_job.JournalJobJobOneDaemon.run.Goals as goal

pub returns-clause-own : goal.returns-clause-own
returns-clause-own c = record { more = []; is = sym (append-nil (history_of c.args.value.now.daemon.value.stored.journal)); own = refl }

pub returns-clause-answer : goal.returns-clause-answer
returns-clause-answer c =
    let line = rw c.deref.ensures at c.journal_from.ensures in
    (refl, (line c.args.self.now.conn).says)
