use Rattle.std.proofs.Common.{◌≤◌, length, ◌∙◌, sym, subst}
use Rattle.machine_model.specs.State.{State}
use Rattle.machine_events.specs.Memory.{Room}
use Rattle.machine_events.proofs.ForceLemmas.{clock_after, end_forced, forced_died, forced_state, timers_after}
use Rattle.machine_effects.proofs.tables.Tables.kill_to_remove.Goals as goal

pub meet_signal-code-requires-clause-room : goal.meet_signal-code-requires-clause-room
meet_signal-code-requires-clause-room c =
    subst (λ (r : Room). length c.renew.new.self.state.execs ≤ r.scratch) (sym c.renew.ensures.room)
    (subst (λ (s : State). length s.execs ≤ c.args.self.now.room.scratch) (sym c.renew.ensures.state) c.requires.room)

pub meet_signal-code-requires-clause-end : goal.meet_signal-code-requires-clause-end
meet_signal-code-requires-clause-end c =
    end_forced c.args.number c.args.brought c.args.self.now.room c.renew.new.self.room c.args.self.now.state c.renew.new.self.state c.renew.ensures.state c.renew.ensures.room c.requires.end

pub await_end-requires-clause-timers : goal.await_end-requires-clause-timers
await_end-requires-clause-timers c =
    timers_after c.args.number c.args.self.now.state c.renew.new.self.state c.meet_signal-code.new.self.state c.args.self.now.room c.meet_signal-code.new.self.room
    c.renew.ensures.state c.meet_signal-code.ensures.state (c.meet_signal-code.ensures.room ∙ c.renew.ensures.room) c.requires.timers

pub await_end-requires-clause-clock : goal.await_end-requires-clause-clock
await_end-requires-clause-clock c =
    clock_after c.args.number c.args.self.now.state c.renew.new.self.state c.meet_signal-code.new.self.state c.renew.ensures.state c.meet_signal-code.ensures.state c.requires.timely.clock

pub returns-clause-state : goal.returns-clause-state
returns-clause-state c =
    forced_state c.args.number c.args.self.now.state c.renew.new.self.state c.meet_signal-code.new.self.state c.await_end.new.self.state
    c.renew.ensures.state c.meet_signal-code.ensures.state c.await_end.ensures.state

pub returns-clause-died : goal.returns-clause-died
returns-clause-died c = forced_died c.args.number c.args.self.now.state c.renew.new.self.state _ c.renew.ensures.state c.meet_signal-code.ensures.died
