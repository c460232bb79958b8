-- What the steps of reading a response came to (own: for the code below its reader).
use Rattle.std.specs.Prelude.{ℕ, ◌≡◌, ◌<◌, ◌≤◌, ◌-◌, ◌==◌, Bool, true, false, IsFalse, List, [], ◌++◌, length, take, drop, Result, Ok, Err, ⊤}
use Rattle.engine_ports.specs.Rose.{Rose, greatest_count}
use Rattle.engine_ports.specs.Source.{SourceView, SourceEnded}
use Rattle.http_edge.specs.Chunking.{PartBy, LastBy}
use Rattle.http_edge.specs.Parts.{IsPart}
use Rattle.http_edge.specs.Reading.{Fills, Reached}
use Rattle.http_edge.specs.declared.head.Head.{Head}
use Rattle.http_edge.specs.declared.parts.Part.TheVariants.{Line}
use Rattle.response_reader.specs.Fronts.{NeverHas, IsPartOf}
use Rattle.response_reader.specs.Heads.{IsTextOf, IsHead, first_in}
use Rattle.response_reader.specs.Bodies.{framing_of, Carries, Breaks, Lacks}
use Rattle.response_reader.specs.Held.{Reading}
use Rattle.response_reader.specs.Reader.{OfAll, IsBroken, IsCut, IsUnended, Gives, BodySays}
use Rattle.response_reader.specs.declared.framing.Left.{Left}
use Rattle.response_reader.specs.declared.framing.Left.TheVariants as left
use Rattle.response_reader.specs.declared.got.Stage.{Stage}
use Rattle.response_reader.specs.declared.got.Stage.TheVariants as stage
use Rattle.response_reader.specs.declared.got.Stopped.{Stopped}
use Rattle.response_reader.specs.declared.got.Stopped.TheVariants as stop
use Rattle.response_reader.specs.declared.got.Answered.{Answered}
use Rattle.response_reader.specs.declared.got.Answered.TheVariants as head
use Rattle.response_reader.specs.declared.got.BodyGot.{BodyGot}
use Rattle.response_reader.specs.declared.got.BodyGot.TheVariants as body
use Rattle.response_reader.specs.declared.front.FrontRead.{FrontRead}
use Rattle.response_reader.specs.declared.front.FrontRead.TheVariants as front
use Rattle.response_reader.specs.declared.chunks.LineRead.{LineRead}
use Rattle.response_reader.specs.declared.chunks.LineRead.TheVariants as chunk
use Rattle.response_reader.specs.declared.pieces.More.{More}
use Rattle.response_reader.specs.declared.pieces.More.TheVariants as more

-- ---- heads

-- what reading a head came to, of the bytes that stood ahead and those that the source gave
abbrev pub FrontReadSays : FrontRead → List ℕ → List ℕ → SourceView → SourceView → Type 0
FrontReadSays (front.Head h len) before ahead s s' =
    (len ≤ length ahead) × IsTextOf h (take len ahead) × Fills before ahead s s'
FrontReadSays front.Never before ahead s s' = Reached before s s' (NeverHas IsHead)
FrontReadSays front.CutShort before ahead s s' = Reached before s s' (IsPartOf IsHead) × SourceEnded s s'
FrontReadSays front.Failed before ahead s s' = Reached before s s' (IsPartOf IsHead) × Rose s.faults s'.faults

-- the head was taken
pub record BeginSays (h : Head) (len : ℕ) (got : Answered) (old new : Reading) : Type 0 where
  pub fits : len ≤ greatest_count
  pub got_is : got ≡ head.Head h.status (first_in h.form)
  pub ahead_is : new.ahead ≡ drop len old.ahead
  pub taken_is : new.taken ≡ len
  pub from_is : new.from ≡ len
  pub left : Left
  pub stage_is : new.stage ≡ stage.Body left
  pub carries : Carries (framing_of h.form) [] [] [] left

-- ---- chunks

-- what reading a chunk's line, or the end of the body, came to
abbrev pub LineSays : LineRead → List ℕ → List ℕ → SourceView → SourceView → Type 0
LineSays (chunk.Piece size count) before ahead s s' = (0 < size) × Reached before s s' (PartBy Line size count ahead)
LineSays (chunk.Last count) before ahead s s' = Reached before s s' (LastBy count ahead)
LineSays chunk.Refused before ahead s s' = Reached before s s' (Breaks left.Chunk)
LineSays chunk.CutShort before ahead s s' = Reached before s s' (Lacks left.Chunk) × SourceEnded s s'
LineSays chunk.Failed before ahead s s' = Reached before s s' (Lacks left.Chunk) × Rose s.faults s'.faults

-- the same of the bytes behind a chunk's line, which tells this size, and has so many bytes
abbrev pub AfterLine : LineRead → ℕ → ℕ → List ℕ → List ℕ → SourceView → SourceView → Type 0
AfterLine read size count before ahead s s' =
    (line : List ℕ) → IsPart Line line size → length line ≡ count → LineSays read (line ++ before) ahead s s'

-- ---- pieces

-- some bytes stand ahead; or none did, and the source ended or failed
abbrev pub MoreSays : More → List ℕ → List ℕ → SourceView → SourceView → Type 0
MoreSays more.Some before ahead s s' = (0 < length ahead) × Fills before ahead s s'
MoreSays more.End before ahead s s' = (ahead ≡ []) × Fills before ahead s s' × SourceEnded s s'
MoreSays more.Failed before ahead s s' = (ahead ≡ []) × Fills before ahead s s' × Rose s.faults s'.faults

-- how many bytes of the body may come next
abbrev pub missing_in : Left → ℕ
missing_in (left.Sized missing) = missing
missing_in (left.Piece missing) = missing
missing_in left.UntilEnd = greatest_count
missing_in other = 0

-- what is left behind so many of them
abbrev pub left_after : Left → ℕ → Left
left_after (left.Sized missing) count = left.Sized (missing - count)
left_after (left.Piece missing) count = left.Piece (missing - count)
left_after other count = other

-- the line end behind a piece comes next
abbrev pub is_line_end : Left → Bool
is_line_end (left.Piece missing) = missing == 0
is_line_end other = false

-- the line of a chunk comes next
abbrev pub is_line : Left → Bool
is_line left.Chunk = true
is_line other = false

-- ---- answers

-- one that has stopped answers so for ever
abbrev pub head_answer : Stopped → Answered
head_answer (stop.BadHead at) = head.BadHead at
head_answer (stop.BadChunk at) = head.BadHead at
head_answer stop.CutShort = head.CutShort
head_answer stop.ReadFault = head.ReadFault

abbrev pub body_answer : Stopped → BodyGot
body_answer (stop.BadHead at) = body.BadChunk at
body_answer (stop.BadChunk at) = body.BadChunk at
body_answer stop.CutShort = body.CutShort
body_answer stop.ReadFault = body.ReadFault

-- the end of the input is the body's, or cuts it
abbrev pub end_of : Left → Result BodyGot Stopped
end_of left.UntilEnd = Ok body.End
end_of other = Err stop.CutShort

-- ---- steps

-- a body is being read
abbrev pub IsRunning : Stage → Type 0
IsRunning (stage.Body left) = ⊤
IsRunning other = ⊥

-- and no line end comes next
abbrev pub IsPastPiece : Stage → Type 0
IsPastPiece (stage.Body left) = IsFalse (is_line_end left)
IsPastPiece other = ⊥

-- nor the line of a chunk
abbrev pub IsGiving : Stage → Type 0
IsGiving (stage.Body left) = IsFalse (is_line_end left) × IsFalse (is_line left)
IsGiving other = ⊥

-- why the reader stops
abbrev pub WhySays : Stopped → Reading → SourceView → SourceView → Type 0
WhySays (stop.BadHead at) old s s' = ⊥
WhySays (stop.BadChunk at) old s s' = OfAll (IsBroken at) old s s'
WhySays stop.CutShort old s s' = OfAll IsCut old s s' × SourceEnded s s'
WhySays stop.ReadFault old s s' = OfAll IsUnended old s s' × Rose s.faults s'.faults

-- bytes were taken that carry nothing of the body, or the reader stops
abbrev pub StepSays : Result (Unit {0}) Stopped → Reading → Reading → SourceView → SourceView → Type 0
StepSays (Ok done) old new s s' = Gives [] old new s s'
StepSays (Err why) old new s s' = WhySays why old s s'

-- bytes of the body, or its end; or the reader stops
abbrev pub GoSays : Result BodyGot Stopped → List ℕ → Reading → Reading → SourceView → SourceView → Type 0
GoSays (Ok (body.Bytes n)) into old new s s' = BodySays (body.Bytes n) into old new s s'
GoSays (Ok body.End) into old new s s' = BodySays body.End into old new s s'
GoSays (Ok other) into old new s s' = ⊥
GoSays (Err why) into old new s s' = WhySays why old s s'
