use Rattle.std.proofs.Common.{◌≤◌, ◌-◌, length, take}
use Rattle.http_edge.specs.Reading.{Fills}
use Rattle.http_edge.proofs.fill.fill_on.Given as goal

abbrev pub invariant-more : goal.invariant-more
invariant-more g l = record {
  fits : l.len ≤ length l.buffer;
  fills : Fills (take l.start l.fn.buffer) (take l.len l.buffer) (g.S.Source.gives l.fn.source) (g.S.Source.gives l.source);
}

abbrev pub decreases-more : goal.decreases-more
decreases-more g l = length l.buffer - l.len
