-- What the parts of a front tell (own: as a source it tells no bytes, but its counts).
use Rattle.std.specs.Prelude.{ℕ, List, Some, None}
use Rattle.engine_ports.specs.Rose.{greatest_count}
use Rattle.engine_ports.specs.Source.{SourceView}
use Rattle.engine_ports.specs.Sink.{SinkView}
use Rattle.front_session.specs.Reads.{Whole, whole}
use Rattle.front_session.specs.declared.giving.Given.{Given}
use Rattle.front_session.specs.declared.reading.FrontSource.{FrontSource}

-- bytes that stand somewhere, as a source: it never fails, and has met its end as often as can be counted
abbrev pub given : List ℕ → SourceView
given bytes = record { left = Some bytes; faults = 0; ends = greatest_count }

abbrev pub given_by : Given → SourceView
given_by g = given g.left.now

-- a front, by what its connection's source and sink tell
abbrev pub whole_of : {R S K : Type 0} → (S → SourceView) → (K → SinkView) → FrontSource R S K → Whole
whole_of gives takes f = whole (gives f.ways.source) (takes f.ways.sink) f.front

-- what it tells as a source
abbrev pub source_over : {R S K : Type 0} → FrontSource R S K → SourceView
source_over f = record { left = None; faults = f.faults; ends = f.ends }
