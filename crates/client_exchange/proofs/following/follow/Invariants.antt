use Rattle.response_reader.specs.Reader.{IsInBody}
use Rattle.std.proofs.Common.{◌≡◌, false}
use Rattle.client_exchange.specs.Outputs.{outputs}
use Rattle.client_exchange.specs.Taking.{unfit_by}
use Rattle.client_exchange.proofs.FollowLemmas.{Showed}
use Rattle.client_exchange.proofs.following.follow.Given as goal

abbrev pub invariant-loop : goal.invariant-loop
invariant-loop g l = record {
  iterator : (goal.iterator-loop g).can_next l.iterator' × (goal.iterator-loop g).is_finite l.iterator';
  stage : IsInBody l.reader.stage;
  showed : Showed l.fn.reader (g.S.Source.gives l.fn.source) l.fn.taker.showing l.reader l.taker (g.S.Source.gives l.source)
      (outputs (g.K.Sink.takes l.fn.out) (g.E.Sink.takes l.fn.errors)) (outputs (g.K.Sink.takes l.out) (g.E.Sink.takes l.errors));
  fit : unfit_by l.taker ≡ false;
}
