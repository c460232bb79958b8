use Rattle.std.proofs.Common.{◌≤◌, length, ap, sym, ◌∙◌, subst}
use Rattle.machine_model.specs.State.{State, change_life}
use Rattle.machine_model.specs.Effects.Meet.{meet_signal}
use Rattle.machine_events.specs.Fit.{AreTimely, CanEndBy}
use Rattle.machine_events.specs.Memory.{Room}
use Rattle.machine_events.proofs.HaltLemmas.{end_halted, few_execs, halted_died, halted_state, set_as, timely_deadline}
use Rattle.machine_effects.proofs.tables.Tables.halt.Goals as goal

pub meet_signal-requires-clause-timely : goal.meet_signal-requires-clause-timely
meet_signal-requires-clause-timely c =
    subst (λ (z : State). AreTimely z) (sym (c.set_deadline.ensures.state ∙ set_as c.args.seconds c.args.number _ _ c.ranges.seconds (c.renew.ensures.state ∙ ap (λ f. change_life c.args.number f c.args.self.now.state) c.life_change.ensures)))
    (timely_deadline c.args.seconds c.args.halting c.args.number c.args.self.now.state c.requires.may.timely)

pub meet_signal-requires-clause-room : goal.meet_signal-requires-clause-room
meet_signal-requires-clause-room c =
    subst (λ (r : Room). length c.set_deadline.new.self.state.execs ≤ r.scratch) (sym (c.set_deadline.ensures.room ∙ c.renew.ensures.room))
    (subst (λ (z : State). length z.execs ≤ c.args.self.now.room.scratch) (sym (c.set_deadline.ensures.state ∙ set_as c.args.seconds c.args.number _ _ c.ranges.seconds (c.renew.ensures.state ∙ ap (λ f. change_life c.args.number f c.args.self.now.state) c.life_change.ensures)))
    (few_execs c.args.seconds c.args.halting c.args.number c.args.self.now.room c.args.self.now.state c.requires.may.execs))

pub meet_signal-requires-clause-end : goal.meet_signal-requires-clause-end
meet_signal-requires-clause-end c =
    subst (λ (r : Room). CanEndBy (meet_signal c.args.sent.number c.args.number) c.args.number c.args.brought r c.set_deadline.new.self.state) (sym (c.set_deadline.ensures.room ∙ c.renew.ensures.room))
    (subst (λ (z : State). CanEndBy (meet_signal c.args.sent.number c.args.number) c.args.number c.args.brought c.args.self.now.room z) (sym (c.set_deadline.ensures.state ∙ set_as c.args.seconds c.args.number _ _ c.ranges.seconds (c.renew.ensures.state ∙ ap (λ f. change_life c.args.number f c.args.self.now.state) c.life_change.ensures)))
    (end_halted c.args.seconds c.args.halting c.args.sent.number c.args.number c.args.brought c.args.self.now.room c.args.self.now.state c.requires.may.end c.requires.may.deadline))

pub returns-clause-state : goal.returns-clause-state
returns-clause-state c =
    c.meet_signal.ensures.state
    ∙ (ap (λ (z : State). (meet_signal c.args.sent.number c.args.number z).state) (c.set_deadline.ensures.state ∙ set_as c.args.seconds c.args.number _ _ c.ranges.seconds (c.renew.ensures.state ∙ ap (λ f. change_life c.args.number f c.args.self.now.state) c.life_change.ensures))
    ∙ halted_state c.args.halting c.args.seconds c.args.sent.number c.args.number c.args.self.now.state)

pub returns-clause-died : goal.returns-clause-died
returns-clause-died c =
    c.meet_signal.ensures.died
    ∙ (ap (λ (z : State). (meet_signal c.args.sent.number c.args.number z).died) (c.set_deadline.ensures.state ∙ set_as c.args.seconds c.args.number _ _ c.ranges.seconds (c.renew.ensures.state ∙ ap (λ f. change_life c.args.number f c.args.self.now.state) c.life_change.ensures))
    ∙ halted_died c.args.halting c.args.seconds c.args.sent.number c.args.number c.args.self.now.state)
