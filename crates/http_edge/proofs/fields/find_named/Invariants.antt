use Rattle.std.proofs.Common.{take, map}
use Rattle.httparse.specs.Spans.{header_bytes}
use Rattle.http_edge.specs.Message.{values_named}
use Rattle.http_edge.specs.Fields.{Counts}
use Rattle.http_edge.proofs.fields.find_named.Given as goal

abbrev pub invariant-loop-field : goal.invariant-loop-field
invariant-loop-field l = Counts l.found (values_named l.name (map (header_bytes l.bytes) (take l.field-index l.fields)))
