use Rattle.std.proofs.Common.{subst, sym}
use Rattle.engine_text.specs.declared.step.Step.{Step}
use Rattle.machine_model.specs.State.{State}
use Rattle.machine_model.specs.History.{IsLawful}
use Rattle.daemon_core.specs.Keeping.{history_of}
use Rattle.daemon_core.specs.Passing.{charter}
use Rattle.daemon_core.proofs.DaemonLemmas.{as_stored, stands, told_of}
use Rattle.daemon_core.proofs.RemakeLemmas.{due_on, due_made, due_stays}
use Rattle.daemon_core.proofs.RingLemmas.{holds_last}
use Rattle.daemon_core.proofs.daemon.Daemon.make_due.Goals as goal

pub step_due-requires-clause-lawful : goal.step_due-requires-clause-lawful
step_due-requires-clause-lawful c = subst (λ (y : State). IsLawful y Step.Due) (sym (stands c.args.self.now).is) c.requires

pub step_due-requires-clause-told : goal.step_due-requires-clause-told
step_due-requires-clause-told c = (charter c.args.self.now, told_of c.args.self.now)

pub invariant_of-self-clause-state : goal.invariant_of-self-clause-state
invariant_of-self-clause-state c =
    let d = c.args.self.now in
    let lawful = subst (λ (y : State). IsLawful y Step.Due) (sym (stands d).is) c.requires in
    as_stored c.step_due.new.self _ (due_on c.step_due.result (charter d) d.stored c.step_due.new.self (stands d) lawful
    c.step_due.ensures.made c.step_due.ensures.state c.step_due.ensures.journal).is

pub invariant_of-self-clause-told : goal.invariant_of-self-clause-told
invariant_of-self-clause-told c =
    let d = c.args.self.now in
    let told = c.step_due.ensures.told (charter d) (told_of d) in
    holds_last (charter d) c.step_due.new.self told.ring told.entries

pub invariant_of-self-clause-legal : goal.invariant_of-self-clause-legal
invariant_of-self-clause-legal c =
    let d = c.args.self.now in
    let lawful = subst (λ (y : State). IsLawful y Step.Due) (sym (stands d).is) c.requires in
    (due_on c.step_due.result (charter d) d.stored c.step_due.new.self (stands d) lawful
    c.step_due.ensures.made c.step_due.ensures.state c.step_due.ensures.journal).legal

pub returns-clause-made : goal.returns-clause-made
returns-clause-made c =
    let d = c.args.self.now in
    due_made c.step_due.result (charter d) d.stored.machine.memory.state c.step_due.new.self.machine.memory.state (history_of d.stored.journal)
    (history_of c.step_due.new.self.journal) c.step_due.ensures.made

pub returns-clause-stays : goal.returns-clause-stays
returns-clause-stays c =
    let d = c.args.self.now in
    due_stays c.step_due.result (charter d) d.stored c.step_due.new.self c.step_due.ensures.journal
