use Rattle.changing_calls.proofs.StopLemmas.{can_halt, may_halt}
use Rattle.changing_calls.proofs.halts.perform.Goals as goal

pub halt-requires-clause-may : goal.halt-requires-clause-may
halt-requires-clause-may c =
    may_halt c.args.conn c.args.number c.args.sent.number c.args.halting c.args.seconds c.asked.result c.args.brought c.args.tables.now c.begin_ticket.new.self
    c.ranges.seconds c.asked.ensures c.begin_ticket.ensures.state c.begin_ticket.ensures.room c.begin_ticket.ensures.spare
    (can_halt c.args.conn c.args.number c.args.halting c.args.sent.number c.args.seconds c.args.brought c.args.tables.now c.requires)
