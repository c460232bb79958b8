use Rattle.std.proofs.Common.{◌≡◌}
use Rattle.machine_tables.specs.Held.{answered_by}
use Rattle.machine_tables.proofs.TicketLemmas.{changed_upto}
use Rattle.machine_tables.proofs.tickets.Tickets.answer.Given as goal

abbrev pub invariant-loop-i : goal.invariant-loop-i
invariant-loop-i l = record {
  tickets : l.self.tickets ≡ changed_upto (answered_by l.removal l.number) l.i l.initial.self.tickets;
  room : l.self.room ≡ l.initial.self.room;
}
