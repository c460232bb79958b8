use Rattle.std.proofs.Common.{subst, sym}
use Rattle.engine_text.specs.declared.call.Call.TheVariants as call
use Rattle.daemon_core.specs.Keeping.{history_of}
use Rattle.daemon_core.specs.Passing.{charter}
use Rattle.daemon_core.specs.Storing.{HoldsTicket}
use Rattle.daemon_core.proofs.DaemonLemmas.{stands, as_stored, told_of, stands_on, drop_lawful, drop_made}
use Rattle.daemon_core.proofs.RingLemmas.{holds_last}
use Rattle.daemon_core.proofs.TicketLemmas.{holds_at}
use Rattle.daemon_core.proofs.daemon.Daemon.drop_ticket.Goals as goal

pub make-requires-clause-lawful : goal.make-requires-clause-lawful
make-requires-clause-lawful c =
    let d = c.args.self.now in
    let holds : HoldsTicket d.stored.machine.memory.state c.args.conn (call.Drop c.args.ticket) =
    subst (λ x. HoldsTicket x c.args.conn (call.Drop c.args.ticket)) (sym (stands d).is)
    (holds_at (charter d) c.args.conn (history_of d.stored.journal) (call.Drop c.args.ticket) d.legal c.requires.1) in
    drop_lawful d.stored.machine.memory.state c.args.conn c.now-moment.result c.args.ticket c.now-moment.ensures.clock holds

pub invariant_of-self-clause-state : goal.invariant_of-self-clause-state
invariant_of-self-clause-state c =
    let d = c.args.self.now in
    let r = c.make.new.self in
    let holds : HoldsTicket d.stored.machine.memory.state c.args.conn (call.Drop c.args.ticket) =
    subst (λ x. HoldsTicket x c.args.conn (call.Drop c.args.ticket)) (sym (stands d).is)
    (holds_at (charter d) c.args.conn (history_of d.stored.journal) (call.Drop c.args.ticket) d.legal c.requires.1) in
    as_stored r _ (stands_on c.make.result (charter d) d.stored.machine.memory.state r.machine.memory.state (history_of d.stored.journal) (history_of r.journal)
    c.args.conn c.now-moment.result (call.Drop c.args.ticket) (stands d)
    (drop_lawful d.stored.machine.memory.state c.args.conn c.now-moment.result c.args.ticket c.now-moment.ensures.clock holds)
    c.make.ensures.made c.make.ensures.state c.make.ensures.steps).is

pub make-requires-clause-told : goal.make-requires-clause-told
make-requires-clause-told c = (charter c.args.self.now, told_of c.args.self.now)

pub invariant_of-self-clause-told : goal.invariant_of-self-clause-told
invariant_of-self-clause-told c =
    let d = c.args.self.now in
    let r = c.make.new.self in
    let told = c.make.ensures.told (charter d) (told_of d) in
    holds_last (charter d) r told.ring told.entries

pub invariant_of-self-clause-legal : goal.invariant_of-self-clause-legal
invariant_of-self-clause-legal c =
    let d = c.args.self.now in
    let r = c.make.new.self in
    let holds : HoldsTicket d.stored.machine.memory.state c.args.conn (call.Drop c.args.ticket) =
    subst (λ x. HoldsTicket x c.args.conn (call.Drop c.args.ticket)) (sym (stands d).is)
    (holds_at (charter d) c.args.conn (history_of d.stored.journal) (call.Drop c.args.ticket) d.legal c.requires.1) in
    (stands_on c.make.result (charter d) d.stored.machine.memory.state r.machine.memory.state (history_of d.stored.journal) (history_of r.journal)
    c.args.conn c.now-moment.result (call.Drop c.args.ticket) (stands d)
    (drop_lawful d.stored.machine.memory.state c.args.conn c.now-moment.result c.args.ticket c.now-moment.ensures.clock holds)
    c.make.ensures.made c.make.ensures.state c.make.ensures.steps).legal

pub returns : goal.returns
returns c =
    let d = c.args.self.now in
    let r = c.make.new.self in
    let holds : HoldsTicket d.stored.machine.memory.state c.args.conn (call.Drop c.args.ticket) =
    subst (λ x. HoldsTicket x c.args.conn (call.Drop c.args.ticket)) (sym (stands d).is)
    (holds_at (charter d) c.args.conn (history_of d.stored.journal) (call.Drop c.args.ticket) d.legal c.requires.1) in
    let legal = (stands_on c.make.result (charter d) d.stored.machine.memory.state r.machine.memory.state (history_of d.stored.journal) (history_of r.journal)
    c.args.conn c.now-moment.result (call.Drop c.args.ticket) (stands d)
    (drop_lawful d.stored.machine.memory.state c.args.conn c.now-moment.result c.args.ticket c.now-moment.ensures.clock holds)
    c.make.ensures.made c.make.ensures.state c.make.ensures.steps).legal in
    λ handed. drop_made (charter d) d.stored.machine.memory.state r.machine.memory.state (history_of d.stored.journal) (history_of r.journal)
    c.args.conn handed c.now-moment.result c.args.ticket c.in-Ok.reply (stands d) c.now-moment.ensures.clock legal c.in-Ok.ensures.made
