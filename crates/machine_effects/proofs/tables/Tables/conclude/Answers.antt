use Rattle.std.proofs.Common.{sym}
use Rattle.container_table.specs.Logs.{container_in}
use Rattle.machine_events.proofs.SettleLemmas.{concluded_is, has_goal}
use Rattle.machine_effects.proofs.tables.Tables.conclude.Goals as goal

pub by_goal-requires-clause-goal : goal.by_goal-requires-clause-goal
by_goal-requires-clause-goal c = has_goal c.args.number c.args.self.now.state (container_in c.in-Some.h.now) (sym c.in-Some.ensures)

pub returns-in_default-status : goal.returns-in_default-status
returns-in_default-status c = record {
  state = concluded_is c.args.number (container_in c.in-Some.h.now) c.args.self.now.state c.by_goal.new.self.state (sym c.in-Some.ensures) c.in_default-status.not-Dead c.by_goal.ensures.state;
  room = c.by_goal.ensures.room;
}
