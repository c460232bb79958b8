use Rattle.request_pieces.specs.Pieces.{view_of, left_of}
use Rattle.request_pieces.specs.Standing.{IsBegun}
use Rattle.request_pieces.specs.Taking.{StepSays}
use Rattle.request_pieces.specs.declared.standing.Step.TheVariants.{On}
use Rattle.request_pieces.proofs.taking.take_all.Given as goal

abbrev pub invariant-more : goal.invariant-more
invariant-more l = record {
  begun : IsBegun l.at l.buffers l.ahead;
  says : StepSays (On l.at) l.fn.inside l.fn.buffers l.fn.ahead l.buffers l.ahead (view_of l.fn.piece) (view_of l.piece);
}

abbrev pub decreases-more : goal.decreases-more
decreases-more l = left_of l.ahead l.piece
