use Rattle.std.proofs.Common.{◌≡◌, subst, sym}
use Rattle.engine_text.specs.declared.call.Call.{Call}
use Rattle.machine_model.specs.State.{State}
use Rattle.machine_model.specs.Call.{outcome_of}
use Rattle.machine_model.proofs.Laws.{timely_call}
use Rattle.machine_model.specs.History.{IsLawful}
use Rattle.engine_text.specs.declared.step.Step.{Step}
use Rattle.call_plans.specs.Making.{Makes}
use Rattle.call_plans.specs.Needs.{HasSpace}
use Rattle.call_plans.specs.Prepared.{IsFor, asked_by}
use Rattle.machine_model.specs.Consistency.{IsConsistent}
use Rattle.call_plans.proofs.ReadyLemmas.{ready}
use Rattle.reading_calls.proofs.TakeLemmas.{not_drop, on_err, ready_drop}
use Rattle.container_machine.proofs.machine.Machine.prepare.Goals as goal

pub returns-in-Drop-clause-ready : goal.returns-in-Drop-clause-ready
returns-in-Drop-clause-ready c =
    subst (λ (x : Call). IsFor c.prepare_drop.result c.args.self.now (asked_by c.args.conn c.args.moment x)) (sym c.in-Drop.is)
    (ready_drop c.prepare_drop.result c.args.self.now c.args.conn c.args.moment c.in-Drop.ticket c.kept.ensures.state
    (subst (λ (x : Call). IsLawful c.args.self.now.memory.state (Step.Call c.args.conn c.args.moment x)) c.in-Drop.is c.requires.lawful)
    c.prepare_drop.ensures)

pub prepare_call-requires-clause-until : goal.prepare_call-requires-clause-until
prepare_call-requires-clause-until c =
    (timely_call c.args.self.now.memory.state c.args.conn c.args.moment c.args.call.now c.kept.ensures.state c.requires.lawful).until

pub returns-clause-ready : goal.returns-clause-ready
returns-clause-ready c =
    let e : c.args.self.now.memory.state ≡ c.make_space.new.self.memory.state = sym c.make_space.ensures.state in
    ready c.in_ok-prepared.prepared c.make_space.new.self c.args.conn c.args.moment c.args.call.now
    (subst (λ (s : State). IsConsistent s) e c.kept.ensures.state)
    (subst (λ (s : State). IsLawful s (Step.Call c.args.conn c.args.moment c.args.call.now)) e c.requires.lawful)
    (subst (λ (s : State). Makes c.in_ok-prepared.prepared c.args.moment s (outcome_of c.args.call.now c.args.conn)) e c.in_ok-prepared.ensures)
    (subst (λ x. HasSpace x c.make_space.new.self.memory) c.space_of.ensures c.in_ok-make_space.ensures.room)

pub prepare_call-requires-clause-heard : goal.prepare_call-requires-clause-heard
prepare_call-requires-clause-heard c = not_drop c.args.call.now c.in_default.not-Drop

pub returns-in_err-make_space-clause-drop : goal.returns-in_err-make_space-clause-drop
returns-in_err-make_space-clause-drop c = on_err c.from_residual-in_err-make_space.result _ (not_drop c.args.call.now c.in_default.not-Drop)
