use Rattle.std.proofs.Common.{◌∙◌}
use Rattle.machine_tables.proofs.TicketLemmas.{put_answered}
use Rattle.machine_tables.proofs.tickets.Tickets.answer_at.Goals as goal

pub returns-clause-tickets : goal.returns-clause-tickets
returns-clause-tickets c = c.put.ensures.tickets ∙ put_answered c.args.removal c.args.number c.answered_at-ready.result c.args.self.now.tickets c.args.place c.requires c.answered_at-ready.ensures
