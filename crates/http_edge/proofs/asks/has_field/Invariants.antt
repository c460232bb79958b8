use Rattle.std.proofs.Common.{◌≡◌, take, map, false}
use Rattle.httparse.specs.Spans.{header_bytes}
use Rattle.http_edge.specs.Asks.{has_field}
use Rattle.http_edge.proofs.asks.has_field.Given as goal

abbrev pub invariant-loop-field : goal.invariant-loop-field
invariant-loop-field l = has_field l.name l.kind l.want (map (header_bytes l.bytes) (take l.field-index l.fields)) ≡ false
