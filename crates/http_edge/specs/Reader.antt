-- What a reader of requests is, and what a call of `next` does to it.
use Rattle.std.specs.Prelude.{◌≡◌, ◌<◌, ◌≤◌, ◌⊎◌, ◌+◌, ◌++◌, min, ℕ, List, [], length, take, None, Some}
use Rattle.engine_ports.specs.Rose.{Rose, greatest_count}
use Rattle.engine_ports.specs.Source.{SourceView, SourceGave, SourceEnded}
use Rattle.engine_ports.specs.declared.ports.Got.{Got}
use Rattle.engine_ports.specs.declared.ports.Got.TheVariants as got
use Rattle.http_edge.specs.Message.{Request}
use Rattle.http_edge.specs.Refusal.{AwaitsMore, IsRefused, IsUnfinished}
use Rattle.http_edge.specs.Reading.{Reached}
use Rattle.http_edge.specs.Outcome.{request_at, BeginsBy}
use Rattle.http_edge.specs.Held.{Reading}
use Rattle.http_edge.specs.declared.reader.Stopped.{Stopped}
use Rattle.http_edge.specs.declared.reader.Stopped.TheVariants as stop
use Rattle.http_edge.specs.declared.view.RequestView.{RequestView}
use Rattle.http_edge.specs.declared.reader.Next.{Next}
use Rattle.http_edge.specs.declared.reader.Next.TheVariants as next

-- the request that the view shows
abbrev pub request_of : RequestView → Request
request_of view =
    let buffers = view.buffers.now in
    request_at (take view.found.len buffers.head) buffers.spans view.found buffers.body

-- how many bytes spell it
abbrev pub count_of : RequestView → ℕ
count_of view = view.found.len + view.coded

-- the place behind so many bytes
abbrev pub place_after : ℕ → ℕ → ℕ
place_after place count = min (place + count) greatest_count

-- the reader has not stopped, before the call and after it
abbrev pub StaysOpen : Reading → Reading → Type 0
StaysOpen old new = (old.stopped ≡ None) × (new.stopped ≡ None)

-- the reader has stopped: in this call, and the fact holds; or before, and nothing was read
abbrev pub Stops : Reading → Reading → Stopped → SourceView → SourceView → Type 0 → Type 0
Stops old new why s s' fact =
    (new.stopped ≡ Some why) × (((old.stopped ≡ Some why) × (s' ≡ s)) ⊎ ((old.stopped ≡ None) × fact))

-- what the next request says: of the bytes ahead and those that the source gave in this call
abbrev pub NextSays : Reading → Reading → Next → SourceView → SourceView → Type 0
NextSays old new (next.Request view) s s' =
    StaysOpen old new × (new.taken ≡ place_after old.taken (count_of view))
    × Reached old.ahead s s' (BeginsBy (request_of view) (count_of view) new.ahead)
NextSays old new next.End s s' =
    StaysOpen old new × (new.taken ≡ old.taken)
    × Reached old.ahead s s' (λ bytes. bytes ≡ []) × (new.ahead ≡ []) × SourceEnded s s'
NextSays old new (next.Bad status at) s s' =
    Stops old new (stop.Bad status at) s s'
    ((at ≡ old.taken) × Reached old.ahead s s' (λ bytes. IsRefused bytes status))
NextSays old new next.CutShort s s' =
    Stops old new stop.CutShort s s' (Reached old.ahead s s' IsUnfinished × SourceEnded s s')
NextSays old new next.ReadFault s s' =
    Stops old new stop.ReadFault s s' (Reached old.ahead s s' AwaitsMore × Rose s.faults s'.faults)

-- what the bytes behind a takeover say: first those ahead, and then the source's
abbrev pub RestSays : Got → List ℕ → Reading → Reading → SourceView → SourceView → Type 0
RestSays (got.Bytes n) into old new s s' =
    (0 < n) × (n ≤ length into) × (new.taken ≡ old.taken) × (new.stopped ≡ old.stopped)
    × Reached old.ahead s s' (λ bytes. bytes ≡ take n into ++ new.ahead)
RestSays got.End into old new s s' = (new ≡ old) × (old.ahead ≡ []) × SourceGave s [] s' × SourceEnded s s'
RestSays got.Failed into old new s s' = (new ≡ old) × (old.ahead ≡ []) × SourceGave s [] s' × Rose s.faults s'.faults
