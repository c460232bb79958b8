use Rattle.std.proofs.Common.{◌≡◌, ◌≤◌, subst, sym}
use Rattle.machine_model.specs.History.{moment_used, greatest_moment}
use Rattle.daemon_core.specs.Keeping.{history_of}
use Rattle.daemon_core.specs.Passing.{charter}
use Rattle.daemon_core.specs.Storing.{HoldsTicket}
use Rattle.daemon_core.proofs.DueLemmas.{clear_behind}
use Rattle.daemon_core.proofs.RingLemmas.{holds_last}
use Rattle.daemon_core.proofs.TicketLemmas.{holds_at, holds_on, none_dropped}
use Rattle.daemon_core.proofs.DaemonLemmas.{stands, as_stored, told_of, stands_due, rested, short, answered_as, used_at, used_from, used_until}
use Rattle.daemon_core.proofs.daemon.Daemon.ask.Goals as goal

pub invariant_of-self-clause-state : goal.invariant_of-self-clause-state
invariant_of-self-clause-state c =
    let d = c.args.self.now in
    let r = c.run_due.new.self in
    as_stored r _ (stands_due (charter d) c.moment_used-moment.result d.stored.machine.memory.state r.machine.memory.state (history_of d.stored.journal) (history_of r.journal)
    (stands d) c.run_due.ensures.made).is

pub run_due-requires-clause-told : goal.run_due-requires-clause-told
run_due-requires-clause-told c = (charter c.args.self.now, told_of c.args.self.now)

pub invariant_of-self-clause-told : goal.invariant_of-self-clause-told
invariant_of-self-clause-told c =
    let d = c.args.self.now in
    let told = c.run_due.ensures.told (charter d) (told_of d) in
    holds_last (charter d) c.run_due.new.self told.ring told.entries

pub invariant_of-self-clause-legal : goal.invariant_of-self-clause-legal
invariant_of-self-clause-legal c =
    let d = c.args.self.now in
    let r = c.run_due.new.self in
    (stands_due (charter d) c.moment_used-moment.result d.stored.machine.memory.state r.machine.memory.state (history_of d.stored.journal) (history_of r.journal)
    (stands d) c.run_due.ensures.made).legal

pub make-requires-clause-at : goal.make-requires-clause-at
make-requires-clause-at c =
    let d = c.args.self.now in
    let s = d.stored.machine.memory.state in
    let r = c.run_due.new.self in
    let u = c.moment_used-moment.result in
    let at : moment_used s c.args.handed ≡ u = used_at s c.args.handed c.now.result u c.moment_used-moment.ensures c.now.ensures.clock in
    let le : s.clock ≤ greatest_moment = subst (λ n. n ≤ greatest_moment) c.now.ensures.clock c.now.ensures.greatest in
    clear_behind u s r.machine.memory.state (history_of d.stored.journal) (history_of r.journal) (used_from s c.args.handed u at) (used_until s c.args.handed u at le)
    c.run_due.ensures.made c.in-Ok.ensures.all

pub returns-in-None : goal.returns-in-None
returns-in-None c =
    let d = c.args.self.now in
    let s = d.stored.machine.memory.state in
    let r = c.run_due.new.self in
    let u = c.moment_used-moment.result in
    let at : moment_used s c.args.handed ≡ u = used_at s c.args.handed c.now.result u c.moment_used-moment.ensures c.now.ensures.clock in
    rw c.in-None.is (rested (charter d) u s r.machine.memory.state (history_of d.stored.journal) (history_of r.journal) c.args.conn c.args.handed
    (stands d) at c.run_due.ensures.made c.in-Ok.ensures.all)

pub returns-in-Some : goal.returns-in-Some
returns-in-Some c =
    let d = c.args.self.now in
    let s = d.stored.machine.memory.state in
    let r = c.run_due.new.self in
    let n = c.make.new.self in
    let u = c.moment_used-moment.result in
    let at : moment_used s c.args.handed ≡ u = used_at s c.args.handed c.now.result u c.moment_used-moment.ensures c.now.ensures.clock in
    rw c.in-Some.is (answered_as (charter d) (charter n) u s r.machine.memory.state (history_of d.stored.journal) (history_of r.journal) (history_of n.stored.journal)
    c.args.conn c.args.handed c.in-Some.call.now c.make.result c.make.ensures.charter (stands d) (none_dropped c.in-Some.call.now (rw c.in-Some.is at c.requires.kind)) at
    c.run_due.ensures.made c.in-Ok.ensures.all n.legal c.make.ensures.ends)

pub returns-in-Err : goal.returns-in-Err
returns-in-Err c =
    let d = c.args.self.now in
    let s = d.stored.machine.memory.state in
    let r = c.run_due.new.self in
    let u = c.moment_used-moment.result in
    let at : moment_used s c.args.handed ≡ u = used_at s c.args.handed c.now.result u c.moment_used-moment.ensures c.now.ensures.clock in
    short (charter d) u s r.machine.memory.state (history_of d.stored.journal) (history_of r.journal) c.args.conn c.args.handed _ (stands d) c.requires.kind at
    c.run_due.ensures.made

pub make-requires-clause-kind : goal.make-requires-clause-kind
make-requires-clause-kind c = none_dropped c.in-Some.call.now (rw c.in-Some.is at c.requires.kind)

pub make-requires-clause-holds : goal.make-requires-clause-holds
make-requires-clause-holds c =
    let d = c.args.self.now in
    let s = d.stored.machine.memory.state in
    let r = c.run_due.new.self in
    let k = c.args.conn in
    let asked = c.in-Some.call.now in
    let made = c.run_due.ensures.made in
    let first : HoldsTicket s k asked =
    subst (λ x. HoldsTicket x k asked) (sym (stands d).is) (holds_at (charter d) k (history_of d.stored.journal) asked d.legal (rw c.in-Some.is at c.requires.may).1) in
    subst (λ x. HoldsTicket x k asked) (sym made.state) (holds_on k s c.moment_used-moment.result made.dues asked made.some first)
