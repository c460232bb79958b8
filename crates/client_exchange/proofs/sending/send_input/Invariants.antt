use Rattle.client_exchange.proofs.SendLemmas.{SoFar}
use Rattle.client_exchange.proofs.sending.send_input.Given as goal

abbrev pub invariant-loop : goal.invariant-loop
invariant-loop g l = record {
  iterator : (goal.iterator-loop g).can_next l.iterator' × (goal.iterator-loop g).is_finite l.iterator';
  so : SoFar (g.S.Source.gives l.fn.input) (g.S.Source.gives l.input) (g.I.Sink.takes l.fn.into) (g.I.Sink.takes l.into);
}
