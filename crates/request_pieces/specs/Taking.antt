-- What the next bytes of a piece come to (RFC 9112).
use Rattle.std.specs.Prelude.{ℕ, ◌≡◌, ◌<◌, ◌≤◌, ◌+◌, Bool, true, false, List, [], ◌++◌, length, take, min}
use Rattle.httparse.specs.declared.spans.RequestSpans.{RequestSpans}
use Rattle.engine_ports.specs.Rose.{greatest_count}
use Rattle.engine_ports.specs.Source.{SourceView, IsSpent}
use Rattle.http_edge.specs.Limits.{head_limit, body_limit}
use Rattle.http_edge.specs.Message.{Request}
use Rattle.http_edge.specs.Outcome.{request_at}
use Rattle.http_edge.specs.Reading.{Reached}
use Rattle.http_edge.specs.Refusal.{AwaitsMore, IsRefused}
use Rattle.http_edge.specs.Shown.{IsShown}
use Rattle.http_edge.specs.Spelling.{Begins}
use Rattle.http_edge.specs.Stored.{Stored}
use Rattle.request_pieces.specs.Standing.{Holds, HasTaken}
use Rattle.request_pieces.specs.declared.standing.Inside.{Inside}
use Rattle.request_pieces.specs.declared.standing.Inside.TheVariants.{Chunks}
use Rattle.request_pieces.specs.declared.standing.ChunkAt.TheVariants.{Bytes, Trailers}
use Rattle.request_pieces.specs.declared.standing.Came.{Came}
use Rattle.request_pieces.specs.declared.standing.Came.TheVariants.{Whole, Refused, Awaits}
use Rattle.request_pieces.specs.declared.standing.Step.{Step}
use Rattle.request_pieces.specs.declared.standing.Step.TheVariants.{On, Ends}
use Rattle.request_pieces.specs.declared.taking.Intake.{Intake}
use Rattle.request_pieces.specs.declared.taking.Taken.{Taken}
use Rattle.request_pieces.specs.declared.taking.Taken.TheVariants as taken

-- the request that stands in the buffers, the parts of its head at these places
abbrev pub stored_at : Stored → RequestSpans → Request
stored_at b r = request_at (take r.len b.head) b.spans r b.body

-- it can be shown, and is what the bytes begin with; its head is no longer than one may be, and stands in them
abbrev pub Shows : Stored → RequestSpans → List ℕ → List ℕ → Type 0
Shows b r behind bytes =
    IsShown (take r.len b.head) b.spans r × Begins bytes (stored_at b r) behind
    × (r.len ≤ head_limit) × (r.len + length behind ≤ length bytes)

-- what the bytes so far are: a request, refused, or less than a request, and all of the piece was read
abbrev pub CameOf : Came → Stored → List ℕ → SourceView → List ℕ → Type 0
CameOf (Whole r) b ahead s bytes = Shows b r ahead bytes
CameOf (Refused status) b ahead s bytes = IsRefused bytes status
CameOf (Awaits inside) b ahead s bytes = Holds inside b ahead bytes × AwaitsMore bytes × IsSpent s.left

-- the same of a step, which may go on
abbrev pub StepOf : Step → Stored → List ℕ → SourceView → List ℕ → Type 0
StepOf (On inside) b ahead s bytes = Holds inside b ahead bytes
StepOf (Ends came) b ahead s bytes = CameOf came b ahead s bytes

-- it says so of whatever bytes brought the reader to where it stood, and those that the piece gave
abbrev pub StepSays : Step → Inside → Stored → List ℕ → Stored → List ℕ → SourceView → SourceView → Type 0
StepSays step inside b ahead b' ahead' s s' =
    (bytes : List ℕ) → Holds inside b ahead bytes → Reached bytes s s' (StepOf step b' ahead' s')

abbrev pub CameSays : Came → Inside → Stored → List ℕ → Stored → List ℕ → SourceView → SourceView → Type 0
CameSays came inside b ahead b' ahead' s s' = StepSays (Ends came) inside b ahead b' ahead' s s'

-- where it goes on, fewer bytes are left
abbrev pub GoesOn : Step → ℕ → ℕ → Type 0
GoesOn (On inside) before now = now < before
GoesOn (Ends came) before now = Unit {0}

-- bytes ahead that begin with a head: it was taken, or they are refused
abbrev pub FrameSays : Step → Stored → List ℕ → List ℕ → Type 0
FrameSays (On inside) b ahead bytes = Holds inside b ahead bytes × (length ahead < length bytes)
FrameSays (Ends (Refused status)) b ahead bytes = IsRefused bytes status
FrameSays step b ahead bytes = ⊥

-- the body has as many bytes as were wanted, or all that stood ahead and in the piece
abbrev pub IsGrown : Bool → ℕ → List ℕ → List ℕ → SourceView → Type 0
IsGrown true until body ahead s = length body ≡ until
IsGrown false until body ahead s = (length body < until) × (ahead ≡ []) × IsSpent s.left

-- the body grew by bytes that stood ahead and in the piece
abbrev pub GrowSays : Bool → ℕ → List ℕ → List ℕ → List ℕ → List ℕ → SourceView → SourceView → Type 0
GrowSays whole until old new ahead ahead' s s' =
    (more : List ℕ) × (new ≡ old ++ more) × Reached ahead s s' (λ bytes. bytes ≡ more ++ ahead') × IsGrown whole until new ahead' s'

-- behind a chunk's line, which tells this size, behind so many bytes of the body: the trailers, the bytes of the chunk, or a
-- body that is too long
abbrev pub LineSays : Step → RequestSpans → ℕ → ℕ → Type 0
LineSays (On (Chunks r Trailers)) found len size = (r ≡ found) × (size ≡ 0)
LineSays (On (Chunks r (Bytes until))) found len size =
    (r ≡ found) × (0 < size) × (until ≡ len + size) × (until ≤ body_limit)
LineSays (Ends (Refused status)) found len size = (status ≡ 413) × (body_limit < len + size)
LineSays step found len size = ⊥

-- what the bytes so far and the piece are: a request, of which some bytes stood in the piece; refused; or less than a request
abbrev pub TakenOf : Taken → Intake → List ℕ → List ℕ → Type 0
TakenOf (taken.Request r count used) i bytes piece =
    (used ≤ length piece) × (count ≡ min (length bytes + used) greatest_count)
    × Shows i.buffers r [] (bytes ++ take used piece) × HasTaken i []
TakenOf (taken.Refused status) i bytes piece = IsRefused (bytes ++ piece) status × HasTaken i []
TakenOf taken.Awaits i bytes piece = HasTaken i (bytes ++ piece)

-- the same of whatever bytes it took before
abbrev pub TakenSays : Taken → Intake → Intake → List ℕ → Type 0
TakenSays result old new piece = (bytes : List ℕ) → HasTaken old bytes → TakenOf result new bytes piece
