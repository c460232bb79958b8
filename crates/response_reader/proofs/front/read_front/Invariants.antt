use Rattle.std.proofs.Common.{◌-◌, length}
use Rattle.http_edge.specs.Reading.{Fills}
use Rattle.response_reader.proofs.front.read_front.Given as goal

abbrev pub invariant-more : goal.invariant-more
invariant-more g l = Fills l.fn.ahead l.ahead (g.S.Source.gives l.fn.source) (g.S.Source.gives l.source)

abbrev pub decreases-more : goal.decreases-more
decreases-more g l = 16384 - length l.ahead
