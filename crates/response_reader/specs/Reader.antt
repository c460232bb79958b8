-- What the calls of a reader of one response say (own: each call is told by the bytes that it takes).
use Rattle.std.specs.Prelude.{ℕ, ◌≡◌, ◌<◌, ◌≤◌, ◌⊎◌, min, true, false, List, [], ◌++◌, length, take, ⊤}
use Rattle.engine_ports.specs.Rose.{Rose, greatest_count}
use Rattle.engine_ports.specs.Source.{SourceView, SourceEnded}
use Rattle.http_edge.specs.Chunked.{print_chunks}
use Rattle.http_edge.specs.Reading.{Reached}
use Rattle.http_edge.specs.Response.{head_text}
use Rattle.http_edge.specs.declared.head.Head.{Head}
use Rattle.response_reader.specs.Fronts.{NeverHas, IsPartOf}
use Rattle.response_reader.specs.Heads.{IsHead, first_in}
use Rattle.response_reader.specs.Bodies.{Breaks, Lacks, MayGoOn}
use Rattle.response_reader.specs.Answers.{Answered, Tells, IsAnswer}
use Rattle.response_reader.specs.Held.{Reading}
use Rattle.response_reader.specs.declared.framing.Left.{Left}
use Rattle.response_reader.specs.declared.got.Stage.{Stage}
use Rattle.response_reader.specs.declared.got.Stage.TheVariants as stage
use Rattle.response_reader.specs.declared.got.Stopped.{Stopped}
use Rattle.response_reader.specs.declared.got.Stopped.TheVariants as stop
use Rattle.response_reader.specs.declared.got.Answered.{Answered as HeadGot}
use Rattle.response_reader.specs.declared.got.Answered.TheVariants as head
use Rattle.response_reader.specs.declared.got.BodyGot.{BodyGot}
use Rattle.response_reader.specs.declared.got.BodyGot.TheVariants as body

-- the place behind these bytes, counted up to the greatest u64
abbrev pub place_behind : List ℕ → ℕ
place_behind bytes = min (length bytes) greatest_count

-- of a connection these bytes were taken: a head's, and then those that carry the bytes given of its body
pub record HasTaken (bytes : List ℕ) (h : Head) (given : List ℕ) (r : Reading) : Type 0 where
  pub left : Left
  pub stage_is : r.stage ≡ stage.Body left
  pub tells : Tells bytes h given left
  pub taken_is : r.taken ≡ place_behind bytes
  pub from_is : r.from ≡ place_behind (head_text h ++ print_chunks tells.chunks)

-- a head can be asked for: none was read yet
abbrev pub IsAtHead : Stage → Type 0
IsAtHead stage.Head = ⊤
IsAtHead (stage.Body left) = ⊥
IsAtHead (stage.Stopped (stop.BadChunk at)) = ⊥
IsAtHead (stage.Stopped why) = ⊤

-- a body can be: a head was read
abbrev pub IsInBody : Stage → Type 0
IsInBody stage.Head = ⊥
IsInBody (stage.Body left) = ⊤
IsInBody (stage.Stopped (stop.BadHead at)) = ⊥
IsInBody (stage.Stopped why) = ⊤

-- behind a head its body can be asked for, and else the same again
abbrev pub Follows : HeadGot → Stage → Type 0
Follows (head.Head status first) st = IsInBody st
Follows other st = IsAtHead st

-- it hasn't stopped
abbrev pub IsOpen : Stage → Type 0
IsOpen (stage.Stopped why) = ⊥
IsOpen other = ⊤

-- the reader has stopped: in this call, and the fact holds; or before, and nothing was read
abbrev pub Stops : Reading → Reading → Stopped → SourceView → SourceView → Type 0 → Type 0
Stops old new why s s' fact =
    (new.stage ≡ stage.Stopped why)
    × (((old.stage ≡ stage.Stopped why) × (new ≡ old) × (s' ≡ s)) ⊎ (IsOpen old.stage × fact))

-- ---- heads

-- what the head says, of the bytes that the source gave: one that had stopped reads no head
abbrev pub HeadSays : HeadGot → Reading → Reading → SourceView → SourceView → Type 0
HeadSays (head.Head status first) old new s s' =
    IsOpen old.stage
    × ((h : Head) × (status ≡ h.status) × (first ≡ first_in h.form) × HasTaken (head_text h) h [] new
    × Reached old.ahead s s' (λ bytes. bytes ≡ head_text h ++ new.ahead))
HeadSays (head.BadHead at) old new s s' =
    Stops old new (stop.BadHead at) s s' ((at ≡ 0) × Reached old.ahead s s' (NeverHas IsHead))
HeadSays head.CutShort old new s s' =
    Stops old new stop.CutShort s s' (Reached old.ahead s s' (IsPartOf IsHead) × SourceEnded s s')
HeadSays head.ReadFault old new s s' =
    Stops old new stop.ReadFault s s' (Reached old.ahead s s' (IsPartOf IsHead) × Rose s.faults s'.faults)

-- ---- bodies

-- bytes of the body: what was told before, the bytes given, and all bytes that were taken or stand there
abbrev pub Facts : Type 1
Facts = Head → List ℕ → List ℕ → Type 0

-- the bytes that come next are refused, and the chunk that they belong to began at this place
abbrev pub IsBroken : ℕ → Facts
IsBroken at h given bytes =
    (front : List ℕ) × (behind : List ℕ) × (left : Left) × (bytes ≡ front ++ behind)
    × (t : Tells front h given left) × Breaks left behind × (at ≡ place_behind (head_text h ++ print_chunks t.chunks))

-- behind the bytes that carry what was given stands this, by what is left of the body
abbrev pub StandsBehind : (Left → List ℕ → Type 0) → Facts
StandsBehind Behind h given bytes =
    (front : List ℕ) × (behind : List ℕ) × (left : Left) × (bytes ≡ front ++ behind)
    × Tells front h given left × Behind left behind

-- more of the body is left, and nothing of it stands there
abbrev pub IsCut : Facts
IsCut = StandsBehind Lacks

-- more of it may come, and nothing of it stands there
abbrev pub IsUnended : Facts
IsUnended = StandsBehind MayGoOn

-- of all bytes that were taken before, and those that stood ahead or came, it is so
abbrev pub OfAll : Facts → Reading → SourceView → SourceView → Type 0
OfAll Holds old s s' =
    Reached old.ahead s s' (λ more. (bytes : List ℕ) (h : Head) (given : List ℕ) → HasTaken bytes h given old → Holds h given (bytes ++ more))

-- bytes were taken that carry this piece of the body
abbrev pub Gives : List ℕ → Reading → Reading → SourceView → SourceView → Type 0
Gives piece old new s s' =
    (taken : List ℕ) × Reached old.ahead s s' (λ bytes. bytes ≡ taken ++ new.ahead)
    × ((bytes : List ℕ) (h : Head) (given : List ℕ) → HasTaken bytes h given old → HasTaken (bytes ++ taken) h (given ++ piece) new)

-- the body is whole: one that takes the connection over where the source gave its end in this call
abbrev pub IsAtEnd : Reading → SourceView → SourceView → Type 0
IsAtEnd old s s' =
    OfAll (λ h given bytes. IsAnswer bytes false (Answered h given true)) old s s'
    ⊎ (OfAll (λ h given bytes. IsAnswer bytes true (Answered h given true)) old s s' × SourceEnded s s')

-- what the next bytes of the body say: one that had stopped gives no bytes and no end
abbrev pub BodySays : BodyGot → List ℕ → Reading → Reading → SourceView → SourceView → Type 0
BodySays (body.Bytes n) into old new s s' =
    IsOpen old.stage × (0 < n) × (n ≤ length into) × Gives (take n into) old new s s'
BodySays body.End into old new s s' = IsOpen old.stage × Gives [] old new s s' × IsAtEnd old s s'
BodySays (body.BadChunk at) into old new s s' =
    Stops old new (stop.BadChunk at) s s' (OfAll (IsBroken at) old s s')
BodySays body.CutShort into old new s s' =
    Stops old new stop.CutShort s s' (OfAll IsCut old s s' × SourceEnded s s')
BodySays body.ReadFault into old new s s' =
    Stops old new stop.ReadFault s s' (OfAll IsUnended old s s' × Rose s.faults s'.faults)
