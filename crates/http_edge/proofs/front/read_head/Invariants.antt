use Rattle.std.proofs.Common.{◌≤◌, ◌-◌, length}
use Rattle.std.specs.Vec.{vec_capacity}
use Rattle.http_edge.specs.Reading.{Fills}
use Rattle.http_edge.proofs.front.read_head.Given as goal

abbrev pub invariant-more : goal.invariant-more
invariant-more g l = record {
  room : 5462 ≤ vec_capacity l.spans;
  fills : Fills l.fn.ahead l.ahead (g.S.Source.gives l.fn.source) (g.S.Source.gives l.source);
}

abbrev pub decreases-more : goal.decreases-more
decreases-more g l = 16384 - length l.ahead
