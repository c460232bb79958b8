use Rattle.std.proofs.Common.{◌∙◌, ap, subst, sym}
use Rattle.engine_text.specs.declared.call.Call.{Call}
use Rattle.engine_text.specs.declared.step.Step.{Step}
use Rattle.machine_model.specs.State.{State}
use Rattle.machine_model.specs.History.{IsLawful}
use Rattle.daemon_core.specs.Keeping.{history_of}
use Rattle.daemon_core.specs.Passing.{charter}
use Rattle.daemon_core.proofs.DaemonLemmas.{as_stored, stands, stands_on, told_of}
use Rattle.daemon_core.proofs.RemakeLemmas.{call_lawful, call_reply, call_made, call_stays}
use Rattle.daemon_core.proofs.RingLemmas.{holds_last}
use Rattle.daemon_core.proofs.daemon.Daemon.make_call.Goals as goal

pub make-requires-clause-lawful : goal.make-requires-clause-lawful
make-requires-clause-lawful c =
    call_lawful _ _ c.args.conn c.args.moment c.in_ok-made.made c.args.call.now (stands c.args.self.now).is c.in_ok-made.ensures c.requires

pub make-requires-clause-told : goal.make-requires-clause-told
make-requires-clause-told c = (charter c.args.self.now, told_of c.args.self.now)

pub invariant_of-self-clause-state : goal.invariant_of-self-clause-state
invariant_of-self-clause-state c =
    let d = c.args.self.now in
    let s = d.stored.machine.memory.state in
    let r = c.make.new.self in
    let lawful : IsLawful s (Step.Call c.args.conn c.args.moment c.in_ok-made.made) =
    call_lawful _ _ c.args.conn c.args.moment c.in_ok-made.made c.args.call.now (stands d).is c.in_ok-made.ensures c.requires in
    as_stored r _ (stands_on c.make.result (charter d) s r.machine.memory.state (history_of d.stored.journal) (history_of r.journal) c.args.conn c.args.moment
    c.in_ok-made.made (stands d) lawful c.make.ensures.made c.make.ensures.state c.make.ensures.steps).is

pub invariant_of-self-clause-told : goal.invariant_of-self-clause-told
invariant_of-self-clause-told c =
    let d = c.args.self.now in
    let told = c.make.ensures.told (charter d) (told_of d) in
    holds_last (charter d) c.make.new.self told.ring told.entries

pub invariant_of-self-clause-legal : goal.invariant_of-self-clause-legal
invariant_of-self-clause-legal c =
    let d = c.args.self.now in
    let s = d.stored.machine.memory.state in
    let r = c.make.new.self in
    let lawful : IsLawful s (Step.Call c.args.conn c.args.moment c.in_ok-made.made) =
    call_lawful _ _ c.args.conn c.args.moment c.in_ok-made.made c.args.call.now (stands d).is c.in_ok-made.ensures c.requires in
    (stands_on c.make.result (charter d) s r.machine.memory.state (history_of d.stored.journal) (history_of r.journal) c.args.conn c.args.moment
    c.in_ok-made.made (stands d) lawful c.make.ensures.made c.make.ensures.state c.make.ensures.steps).legal

pub returns-clause-reply : goal.returns-clause-reply
returns-clause-reply c =
    let d = c.args.self.now in
    call_reply c.make.result d.stored.machine.memory.state c.make.new.self.machine.memory.state _ (history_of d.stored.journal)
    (history_of c.make.new.self.journal) c.args.conn c.args.moment c.in_ok-made.made c.args.call.now (stands d).is c.in_ok-made.ensures c.make.ensures.made

pub returns-clause-made : goal.returns-clause-made
returns-clause-made c =
    let d = c.args.self.now in
    call_made c.make.result (charter d) d.stored.machine.memory.state c.make.new.self.machine.memory.state (history_of d.stored.journal)
    (history_of c.make.new.self.journal) c.args.conn c.args.moment c.in_ok-made.made c.args.call.now c.in_ok-made.ensures c.make.ensures.made

pub returns-clause-stays : goal.returns-clause-stays
returns-clause-stays c =
    let d = c.args.self.now in
    call_stays c.make.result (charter d) (history_of d.stored.journal) (history_of c.make.new.self.journal) c.make.ensures.steps
