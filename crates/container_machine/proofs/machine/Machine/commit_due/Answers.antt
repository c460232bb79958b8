use Rattle.std.proofs.Common.{◌≤◌, arith, refl, ap, sym, subst, ◌∙◌}
use Rattle.machine_model.specs.declared.limits.TheConstants.{KEPT_EVENTS}
use Rattle.machine_events.specs.Memory.{Memory, Room, standing}
use Rattle.container_machine.specs.DuePlans.{FitsDue}
use Rattle.machine_model.specs.Step.{at_moment, counted}
use Rattle.call_plans.specs.Parts.{MachineParts}
use Rattle.container_machine.proofs.CommitLemmas.{due_parts, kept_due_parts, count_fits}
use Rattle.container_machine.proofs.machine.Machine.commit_due.Goals as goal

pub invariant_of-self : goal.invariant_of-self
invariant_of-self c = record {
  state = kept_due_parts c.args.prepared c.args.self.now c.perform-death.result c.as_slice.result.now c.stand_at.new.self.state c.perform-death.new.tables.state c.settle.new.self.state c.count.new.self.state
      c.requires (ap (λ (m : Memory). m.state) c.stand_at.ensures ∙ ap (λ (w : MachineParts). at_moment c.args.prepared.moment w.memory.state) c.self.view_is) c.perform-death.ensures.state c.perform-death.ensures.died c.settle.ensures.state c.as_slice.ensures.value c.count.ensures.state;
  moments = subst (λ (r : Room). KEPT_EVENTS ≤ r.moments) (sym (c.count.ensures.room ∙ (c.settle.ensures.room ∙ (c.perform-death.ensures.room ∙ ap (λ (m : Memory). m.room) c.stand_at.ensures)))) c.self.invariant.moments;
}

pub count-requires-clause-calls : goal.count-requires-clause-calls
count-requires-clause-calls c = (count_fits c.as_slice.result.now 0 c.settle.new.self.state (kept_due_parts c.args.prepared c.args.self.now c.perform-death.result c.as_slice.result.now c.stand_at.new.self.state c.perform-death.new.tables.state c.settle.new.self.state (counted c.as_slice.result.now 0 c.settle.new.self.state)
    c.requires (ap (λ (m : Memory). m.state) c.stand_at.ensures ∙ ap (λ (w : MachineParts). at_moment c.args.prepared.moment w.memory.state) c.self.view_is) c.perform-death.ensures.state c.perform-death.ensures.died c.settle.ensures.state c.as_slice.ensures.value refl)).0

pub count-requires-clause-events : goal.count-requires-clause-events
count-requires-clause-events c = (count_fits c.as_slice.result.now 0 c.settle.new.self.state (kept_due_parts c.args.prepared c.args.self.now c.perform-death.result c.as_slice.result.now c.stand_at.new.self.state c.perform-death.new.tables.state c.settle.new.self.state (counted c.as_slice.result.now 0 c.settle.new.self.state)
    c.requires (ap (λ (m : Memory). m.state) c.stand_at.ensures ∙ ap (λ (w : MachineParts). at_moment c.args.prepared.moment w.memory.state) c.self.view_is) c.perform-death.ensures.state c.perform-death.ensures.died c.settle.ensures.state c.as_slice.ensures.value refl)).1

pub returns : goal.returns
returns c = record {
  state = due_parts c.args.prepared c.args.self.now c.perform-death.result c.as_slice.result.now c.stand_at.new.self.state c.perform-death.new.tables.state c.settle.new.self.state c.count.new.self.state
      c.requires (ap (λ (m : Memory). m.state) c.stand_at.ensures ∙ ap (λ (w : MachineParts). at_moment c.args.prepared.moment w.memory.state) c.self.view_is) c.perform-death.ensures.state c.perform-death.ensures.died c.settle.ensures.state c.as_slice.ensures.value c.count.ensures.state;
  room = c.count.ensures.room ∙ (c.settle.ensures.room ∙ (c.perform-death.ensures.room ∙ (ap (λ (m : Memory). m.room) c.stand_at.ensures ∙ ap (λ (w : MachineParts). w.memory.room) c.self.view_is)));
}

pub perform-death-requires : goal.perform-death-requires
perform-death-requires c =
    subst (λ (m : Memory). FitsDue c.args.prepared.plan m)
    (sym (c.stand_at.ensures ∙ (ap (λ t. standing t c.self.inside.tables) c.requires.makes.moment ∙ ap (λ (w : MachineParts). standing c.requires.due.moment w.memory) c.self.view_is)))
    c.requires.fits

pub count-requires-clause-moments : goal.count-requires-clause-moments
count-requires-clause-moments c =
    let room : KEPT_EVENTS ≤ c.settle.new.self.room.moments = subst (λ (r : Room). KEPT_EVENTS ≤ r.moments) (sym (c.settle.ensures.room ∙ (c.perform-death.ensures.room ∙ ap (λ (m : Memory). m.room) c.stand_at.ensures))) c.self.invariant.moments in
    omega (arith, room)
