use Rattle.std.proofs.Common.{sym}
use Rattle.container_table.specs.Logs.{container_in}
use Rattle.machine_events.proofs.DiedLemmas.{died_met, end_met}
use Rattle.machine_effects.proofs.tables.Tables.meet_signal.Goals as goal

pub send-requires-clause-end : goal.send-requires-clause-end
send-requires-clause-end c =
    end_met c.args.sent.number c.args.number c.args.brought c.args.self.now.room c.wake_paused.new.self.room c.args.self.now.state c.wake_paused.new.self.state (container_in c.in-Some.h.now)
    (sym c.in-Some.ensures) c.wake_paused.ensures.state c.wake_paused.ensures.room c.requires.end

pub returns-clause-died : goal.returns-clause-died
returns-clause-died c = died_met c.args.sent.number c.args.number c.args.self.now.state c.wake_paused.new.self.state (container_in c.in-Some.h.now) _ (sym c.in-Some.ensures) c.wake_paused.ensures.state c.send.ensures.died
