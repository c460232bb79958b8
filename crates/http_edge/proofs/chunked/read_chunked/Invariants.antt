use Rattle.std.proofs.Common.{◌≤◌, ◌-◌, ◌*◌, length}
use Rattle.std.specs.Vec.{vec_capacity}
use Rattle.http_edge.proofs.ChunkingLemmas.{HasRead}
use Rattle.http_edge.proofs.chunked.read_chunked.Given as goal

abbrev pub invariant-more : goal.invariant-more
invariant-more g l = record {
  room : 1048576 ≤ vec_capacity l.body;
  fits : length l.body.items ≤ 1048576;
  bound : l.count ≤ 259 * length l.body.items;
  read : HasRead l.fn.ahead l.ahead l.body.items l.count (g.S.Source.gives l.fn.source) (g.S.Source.gives l.source);
}

abbrev pub decreases-more : goal.decreases-more
decreases-more g l = 1048576 - length l.body.items
