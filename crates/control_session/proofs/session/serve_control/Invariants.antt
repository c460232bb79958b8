use Rattle.control_session.proofs.SessionLemmas.{Stands}
use Rattle.control_session.proofs.session.serve_control.Given as goal

abbrev pub invariant-loop : goal.invariant-loop
invariant-loop g l = record {
  iterator : (goal.iterator-loop g).can_next l.iterator' × (goal.iterator-loop g).is_finite l.iterator';
  stands : Stands l.fn.time (g.S.Source.gives l.fn.source) (g.S.Source.gives l.source) (g.K.Sink.takes l.fn.sink) (g.K.Sink.takes l.sink) l.reader;
}
