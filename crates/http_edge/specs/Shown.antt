-- What is true of a request that stands in the reader's buffers (own: how it is kept).
use Rattle.std.specs.Prelude.{ℕ, List, IsUtf8}
use Rattle.httparse.specs.Spans.{span_bytes, IsRequestWithin}
use Rattle.httparse.specs.declared.spans.HeaderSpan.{HeaderSpan}
use Rattle.httparse.specs.declared.spans.RequestSpans.{RequestSpans}

-- its parts lie in the head, and its method and target are text
pub record IsShown (head : List ℕ) (spans : List HeaderSpan) (r : RequestSpans) : Type 0 where
  pub within : IsRequestWithin head spans r
  pub method : IsUtf8 (span_bytes head r.method)
  pub target : IsUtf8 (span_bytes head r.path)
