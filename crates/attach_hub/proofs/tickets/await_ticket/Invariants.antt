use Rattle.attach_hub.proofs.AwaitLemmas.{Waits}
use Rattle.attach_hub.proofs.tickets.await_ticket.Given as goal

abbrev pub invariant-loop : goal.invariant-loop
invariant-loop g l = record {
  iterator : (goal.iterator-loop g).can_next l.iterator' × (goal.iterator-loop g).is_finite l.iterator';
  waits : Waits l.ticket l.fn.conn l.conn;
}
