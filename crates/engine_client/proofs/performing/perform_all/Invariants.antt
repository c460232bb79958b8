use Rattle.std.proofs.Common.{ℕ}
use Rattle.engine_ports.specs.Link.{but_for}
use Rattle.client_model.specs.Plans.{Plan}
use Rattle.client_exchange.specs.Exchanges.{reach}
use Rattle.engine_client.specs.Places.{IsStep}
use Rattle.engine_client.proofs.PerformLemmas.{IsAt}
use Rattle.engine_client.proofs.performing.perform_all.Given as goal

abbrev pub invariant-loop : goal.invariant-loop
invariant-loop g l = record {
  iterator : (goal.iterator-loop g).can_next l.iterator' × (goal.iterator-loop g).is_finite l.iterator';
  at : (plan : Plan) → IsStep l.fn.first plan → IsAt plan l.step
      (g.N.Source.gives l.fn.outside.input) (g.N.Source.gives l.outside.input)
      (reach (but_for l.fn.address (g.L.Link.links l.fn.outside.link)) (g.K.Sink.takes l.fn.outside.out) (g.E.Sink.takes l.fn.outside.errors))
      (reach (but_for l.fn.address (g.L.Link.links l.outside.link)) (g.K.Sink.takes l.outside.out) (g.E.Sink.takes l.outside.errors));
}
