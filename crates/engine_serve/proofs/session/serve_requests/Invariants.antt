use Rattle.engine_serve.proofs.RequestLemmas.{StandsAt}
use Rattle.engine_serve.proofs.session.serve_requests.Given as goal

abbrev pub invariant-loop : goal.invariant-loop
invariant-loop g l = record {
  iterator : (goal.iterator-loop g).can_next l.iterator' × (goal.iterator-loop g).is_finite l.iterator';
  stands : StandsAt l.fn.conn l.conn (g.S.Source.gives l.fn.source) (g.S.Source.gives l.source) l.reader;
}
