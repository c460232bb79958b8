use Rattle.std.proofs.Common.{◌≤◌, length, subst, sym}
use Rattle.machine_model.specs.State.{State}
use Rattle.machine_events.specs.Memory.{Room}
use Rattle.machine_effects.proofs.DueLemmas.{end_deadline}
use Rattle.machine_effects.proofs.tables.Tables.stop_deadline.Goals as goal

pub meet_signal-requires-clause-room : goal.meet_signal-requires-clause-room
meet_signal-requires-clause-room c =
    subst (λ (r : Room). length c.clear_timer.new.self.state.execs ≤ r.scratch) (sym c.clear_timer.ensures.room)
    (subst (λ (s : State). length s.execs ≤ c.args.self.now.room.scratch) (sym c.clear_timer.ensures.state) c.requires.room)

pub meet_signal-requires-clause-end : goal.meet_signal-requires-clause-end
meet_signal-requires-clause-end c =
    end_deadline c.args.number c.args.brought c.args.self.now.room c.clear_timer.new.self.room c.args.self.now.state c.clear_timer.new.self.state
    c.clear_timer.ensures.state c.clear_timer.ensures.room c.requires.end
