use Rattle.std.proofs.Common.{arith}
use Rattle.changing_calls.proofs.RemoveLemmas.{forced_end, forced_execs, forced_timely, forced_timers}
use Rattle.changing_calls.proofs.remove.perform_forced.Goals as goal

pub kill_to_remove-requires-clause-timely : goal.kill_to_remove-requires-clause-timely
kill_to_remove-requires-clause-timely c = forced_timely c.args.conn c.args.number c.args.tables.now.state c.begin_ticket.new.self.state c.begin_ticket.ensures.state c.requires.timely

pub kill_to_remove-requires-clause-room : goal.kill_to_remove-requires-clause-room
kill_to_remove-requires-clause-room c =
    forced_execs c.args.conn c.args.number c.args.tables.now.room c.begin_ticket.new.self.room c.args.tables.now.state c.begin_ticket.new.self.state c.begin_ticket.ensures.state c.begin_ticket.ensures.room c.requires.room

pub kill_to_remove-requires-clause-timers : goal.kill_to_remove-requires-clause-timers
kill_to_remove-requires-clause-timers c =
    let more = c.requires.timers in
    forced_timers c.args.conn c.args.number c.args.tables.now.room c.begin_ticket.new.self.room c.args.tables.now.state c.begin_ticket.new.self.state c.begin_ticket.ensures.state c.begin_ticket.ensures.room (omega (arith, more))

pub kill_to_remove-requires-clause-end : goal.kill_to_remove-requires-clause-end
kill_to_remove-requires-clause-end c =
    forced_end c.args.conn c.args.number c.args.brought c.args.tables.now.room c.begin_ticket.new.self.room c.args.tables.now.state c.begin_ticket.new.self.state c.begin_ticket.ensures.state c.begin_ticket.ensures.room c.requires.end
