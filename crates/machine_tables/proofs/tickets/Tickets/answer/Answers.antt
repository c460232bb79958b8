use Rattle.std.proofs.Common.{◌∙◌, arith}
use Rattle.machine_tables.specs.Held.{answered_by}
use Rattle.machine_tables.proofs.TicketLemmas.{changed_low, changed_next, changed_end}
use Rattle.machine_tables.proofs.tickets.Tickets.answer.Goals as goal

pub answer_at-requires : goal.answer_at-requires
answer_at-requires c = changed_low (answered_by c.args.removal c.args.number) c.loop-i.i c.args.self.now.tickets c.loop-i.self.tickets c.loop-i.invariant.tickets (omega (arith, c.len-i-end.ensures))

pub loop-i-preserved : goal.loop-i-preserved
loop-i-preserved c = record {
  tickets = changed_next (answered_by c.args.removal c.args.number) c.loop-i.i c.args.self.now.tickets c.loop-i.self.tickets c.answer_at.new.self.tickets c.loop-i.invariant.tickets (omega (arith, c.len-i-end.ensures)) c.answer_at.ensures.tickets;
  room = c.answer_at.ensures.room ∙ c.loop-i.invariant.room;
}

pub returns-clause-tickets : goal.returns-clause-tickets
returns-clause-tickets c = changed_end (answered_by c.args.removal c.args.number) c.loop-i.i c.args.self.now.tickets c.loop-i.self.tickets c.loop-i.invariant.tickets (omega (arith, c.len-i-end.ensures))
