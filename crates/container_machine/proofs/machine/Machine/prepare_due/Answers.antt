use Rattle.std.proofs.Common.{◌≡◌, subst, sym, ap, ◌∙◌}
use Rattle.engine_text.specs.declared.step.Step.{Step}
use Rattle.machine_model.specs.Consistency.{IsConsistent}
use Rattle.machine_model.specs.Due.{least_due}
use Rattle.machine_model.specs.History.{IsLawful}
use Rattle.machine_model.specs.State.{State}
use Rattle.container_machine.specs.Dues.{MakesDue}
use Rattle.call_plans.specs.Parts.{MachineParts}
use Rattle.container_machine.proofs.DueMakeLemmas.{ready_due}
use Rattle.container_machine.proofs.machine.Machine.prepare_due.Goals as goal

pub returns-clause-ready : goal.returns-clause-ready
returns-clause-ready c =
    let e : c.args.self.now.memory.state ≡ c.make_due_room.new.self.memory.state = sym c.make_due_room.ensures.state in
    let same : c.self.inside.tables.state ≡ c.make_due_room.new.self.memory.state = ap (λ (w : MachineParts). w.memory.state) c.self.view_is ∙ e in
    ready_due c.in_ok-prepared.prepared c.make_due_room.new.self c.in-Some.action
    (subst (λ (s : State). IsConsistent s) e c.kept.ensures.state)
    (subst (λ (s : State). IsLawful s Step.Due) e c.requires)
    (ap least_due (sym same) ∙ sym c.in-Some.ensures)
    (subst (λ (s : State). MakesDue c.in_ok-prepared.prepared c.in-Some.action s) same c.in_ok-prepared.ensures)
    c.in_ok-make_due_room.ensures.room
