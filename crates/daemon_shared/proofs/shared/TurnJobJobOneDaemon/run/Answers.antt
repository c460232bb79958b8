use Rattle.daemon_core.specs.Keeping.{history_of}
use Rattle.daemon_shared.specs.Sharing.{opening_in}
use Rattle.daemon_shared.proofs.TurnLemmas.{kept_by, makes_of, makes_by_one}
use Rattle.daemon_shared.proofs.shared.TurnJobJobOneDaemon.run.Goals as goal

pub returns-clause-legal : goal.returns-clause-legal
returns-clause-legal c = kept_by c.turn.new.self

pub returns-clause-own : goal.returns-clause-own
returns-clause-own c =
    let d = c.args.value.now.daemon.value in
    let job = c.args.self.now in
    makes_by_one (opening_in d) job.conn job.handed _ c.turn.result (history_of d.stored.journal) (history_of c.turn.new.self.stored.journal)
    (makes_of (opening_in d) _ job.conn job.handed _ c.turn.result (history_of d.stored.journal) (history_of c.turn.new.self.stored.journal) (rw c.deref_mut.ensures.value at c.turn.ensures))

pub returns-clause-answer : goal.returns-clause-answer
returns-clause-answer c =
    let d = c.args.value.now.daemon.value in
    let job = c.args.self.now in
    makes_of (opening_in d) _ job.conn job.handed _ c.turn.result (history_of d.stored.journal) (history_of c.turn.new.self.stored.journal) (rw c.deref_mut.ensures.value at c.turn.ensures)
