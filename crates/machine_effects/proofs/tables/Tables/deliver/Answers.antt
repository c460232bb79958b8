use Rattle.std.proofs.Common.{◌≤◌, length, subst, sym}
use Rattle.machine_model.specs.State.{State}
use Rattle.machine_events.specs.Memory.{Room}
use Rattle.machine_events.proofs.DiedLemmas.{end_last, end_other}
use Rattle.machine_effects.proofs.tables.Tables.deliver.Goals as goal

pub meet_signal-requires-clause-room : goal.meet_signal-requires-clause-room
meet_signal-requires-clause-room c =
    subst (λ (r : Room). length c.renew.new.self.state.execs ≤ r.scratch) (sym c.renew.ensures.room)
    (subst (λ (s : State). length s.execs ≤ c.args.self.now.room.scratch) (sym c.renew.ensures.state) c.requires.room)

pub meet_signal-requires-clause-end : goal.meet_signal-requires-clause-end
meet_signal-requires-clause-end c =
    end_last c.args.last c.args.sent.number c.args.number c.args.brought c.args.self.now.room c.renew.new.self.room c.args.self.now.state c.renew.new.self.state
    c.if-last.true c.renew.ensures.state c.renew.ensures.room c.requires.end

pub send-requires-clause-end : goal.send-requires-clause-end
send-requires-clause-end c = end_other c.args.last c.args.sent.number c.args.number c.args.brought c.args.self.now.room c.args.self.now.state c.if-last.false c.requires.end
