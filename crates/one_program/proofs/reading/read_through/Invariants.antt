use Rattle.std.proofs.Common.{◌<◌, ◌≤◌, ◌-◌, length}
use Rattle.engine_ports.specs.Source.{SourceGave}
use Rattle.one_program.specs.Reading.{most_bytes}
use Rattle.one_program.proofs.reading.read_through.Given as goal

abbrev pub invariant-more : goal.invariant-more
invariant-more g l = record {
  place : 0 < length l.place;
  gave : SourceGave (g.S.Source.gives l.fn.source) l.text.items (g.S.Source.gives l.source);
  fits : length l.text.items ≤ most_bytes;
}

abbrev pub decreases-more : goal.decreases-more
decreases-more g l = most_bytes - length l.text.items
