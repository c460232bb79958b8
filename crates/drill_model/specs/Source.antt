-- What a source of given bytes tells, and a sink that has taken nothing (own).
use Rattle.std.specs.Prelude.{ℕ, List, [], Some}
use Rattle.engine_ports.specs.Source.{SourceView}
use Rattle.engine_ports.specs.Sink.{SinkView}

-- the bytes left, and how often their end was met
pub record Supply : Type 0 where
  pub left : List ℕ
  pub ends : ℕ

-- a source that has these bytes to give, and never fails
abbrev pub full_source : List ℕ → ℕ → SourceView
full_source left ends = record { left = Some left; faults = 0; ends = ends }

abbrev pub empty_sink : SinkView
empty_sink = record { wrote = Some []; faults = 0 }
