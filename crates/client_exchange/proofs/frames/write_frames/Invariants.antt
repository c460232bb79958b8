use Rattle.stream_frame.specs.Steps.{items_of}
use Rattle.stream_frame.specs.Walks.{items_left}
use Rattle.client_exchange.specs.Outputs.{outputs}
use Rattle.client_exchange.proofs.FrameLemmas.{Wrote}
use Rattle.client_exchange.proofs.frames.write_frames.Given as goal

abbrev pub invariant-items : goal.invariant-items
invariant-items g l = record {
  iterator : (goal.iterator-items g).can_next l.item-iterator × (goal.iterator-items g).is_finite l.item-iterator;
  wrote : Wrote (items_of l.fn.demux l.piece) (items_left l.item-iterator)
      (outputs (g.K.Sink.takes l.fn.out) (g.E.Sink.takes l.fn.errors)) (outputs (g.K.Sink.takes l.out) (g.E.Sink.takes l.errors));
}
