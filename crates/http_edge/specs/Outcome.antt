-- What reading one request came to.
use Rattle.std.specs.Prelude.{◌≡◌, ◌+◌, ℕ, List, [], length, map, take}
use Rattle.httparse.specs.Spans.{span_bytes, header_bytes}
use Rattle.httparse.specs.declared.spans.HeaderSpan.{HeaderSpan}
use Rattle.httparse.specs.declared.spans.RequestSpans.{RequestSpans}
use Rattle.engine_ports.specs.Rose.{Rose}
use Rattle.engine_ports.specs.Source.{SourceView, SourceEnded}
use Rattle.http_edge.specs.Message.{Request}
use Rattle.http_edge.specs.Spelling.{Begins}
use Rattle.http_edge.specs.Refusal.{AwaitsMore, IsRefused, IsUnfinished}
use Rattle.http_edge.specs.Reading.{Reached}
use Rattle.http_edge.specs.Shown.{IsShown}
use Rattle.http_edge.specs.declared.request.Outcome.{Outcome}
use Rattle.http_edge.specs.declared.request.Outcome.TheVariants.{Whole, End, Bad, CutShort, Failed}

-- the request that stands at these spans of the head, with the body
abbrev pub request_at : List ℕ → List HeaderSpan → RequestSpans → List ℕ → Request
request_at head spans r body = record {
  method = span_bytes head r.method;
  target = span_bytes head r.path;
  fields = map (header_bytes head) (take r.headers spans);
  body = body;
}

-- so many bytes spell the request, and behind them stand these
abbrev pub BeginsBy : Request → ℕ → List ℕ → List ℕ → Type 0
BeginsBy request count behind bytes =
    Begins bytes request behind × (length bytes ≡ count + length behind)

-- the head, its spans and the body show a request, which so many bytes spell
abbrev pub ShowsRequest : List ℕ → List HeaderSpan → RequestSpans → List ℕ → ℕ → List ℕ → List ℕ → Type 0
ShowsRequest head spans r body count ahead bytes = BeginsBy (request_at head spans r body) (r.len + count) ahead bytes

-- what the outcome says: of the bytes that stood ahead and those that the source gave, and of what
-- stands ahead and in the buffers afterwards
abbrev pub Facts : Outcome → List ℕ → List ℕ → List ℕ → List HeaderSpan → List ℕ → SourceView → SourceView → Type 0
Facts (Whole r count) before ahead head spans body s s' =
    IsShown (take r.len head) spans r × Reached before s s' (ShowsRequest (take r.len head) spans r body count ahead)
Facts End before ahead head spans body s s' = Reached before s s' (λ all. all ≡ []) × (ahead ≡ []) × SourceEnded s s'
Facts (Bad status) before ahead head spans body s s' = Reached before s s' (λ all. IsRefused all status)
Facts CutShort before ahead head spans body s s' = Reached before s s' IsUnfinished × SourceEnded s s'
Facts Failed before ahead head spans body s s' = Reached before s s' AwaitsMore × Rose s.faults s'.faults
