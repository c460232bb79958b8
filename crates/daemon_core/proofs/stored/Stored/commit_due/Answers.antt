use Rattle.std.proofs.Common.{◌≡◌, refl, subst, sym, ap, ◌∙◌}
use Rattle.engine_text.specs.declared.step.Step.{Step}
use Rattle.machine_model.specs.State.{State}
use Rattle.machine_model.specs.History.{after_step}
use Rattle.machine_model.specs.Step.{step_effect}
use Rattle.daemon_core.specs.Telling.{AreTimed}
use Rattle.daemon_core.proofs.TellLemmas.{due_events, played, room_for, timed_step}
use Rattle.daemon_core.proofs.stored.Stored.commit_due.Goals as goal

pub with_lines-requires : goal.with_lines-requires
with_lines-requires c =
    let m = c.prepare_due.new.self in
    let s : State = c.args.self.now.machine.memory.state in
    let are : c.events.result.now ≡ (step_effect Step.Due s).events =
    c.events.ensures ∙ due_events c.in_ok-prepared.prepared m c.in_ok-prepared.ensures.ready
    ∙ ap (λ (y : State). (step_effect Step.Due y).events) c.in_ok-prepared.ensures.state in
    subst AreTimed (sym are) (timed_step s Step.Due c.kept.ensures.state c.requires.lawful)

pub keep_all-requires : goal.keep_all-requires
keep_all-requires c =
    let m = c.prepare_due.new.self in
    let s : State = c.args.self.now.machine.memory.state in
    let are : c.in_ok-lines.lines.items ≡ (step_effect Step.Due s).events =
    c.in_ok-lines.ensures.ok ∙ c.events.ensures ∙ due_events c.in_ok-prepared.prepared m c.in_ok-prepared.ensures.ready
    ∙ ap (λ (y : State). (step_effect Step.Due y).events) c.in_ok-prepared.ensures.state in
    room_for c.args.self.now Step.Due c.in_ok-lines.lines.items c.requires.told c.kept.ensures.state c.requires.lawful are

pub returns : goal.returns
returns c =
    let m = c.prepare_due.new.self in
    let n = c.commit_due.new.self in
    let s : State = c.args.self.now.machine.memory.state in
    let are : c.in_ok-lines.lines.items ≡ (step_effect Step.Due s).events =
    c.in_ok-lines.ensures.ok ∙ c.events.ensures ∙ due_events c.in_ok-prepared.prepared m c.in_ok-prepared.ensures.ready
    ∙ ap (λ (y : State). (step_effect Step.Due y).events) c.in_ok-prepared.ensures.state in
    let is : n.memory.state ≡ after_step s Step.Due =
    c.commit_due.ensures.state ∙ ap (λ (y : State). after_step y Step.Due) c.in_ok-prepared.ensures.state in
    record {
      journal = refl;
      made = played c.args.self.now (record { machine = n; journal = c.args.self.now.journal; ring = c.keep_all.new.ring }) Step.Due
          c.in_ok-lines.lines.items is are c.keep_all.ensures;
      state = tt;
      ring = tt;
    }
