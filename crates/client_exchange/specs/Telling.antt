-- What a connection tells of its answer, and what is done with it (own: told of all the bytes that its source gave).
use Rattle.std.specs.Prelude.{ℕ, ◌≡◌, ◌⊎◌, nat_lt, Bool, true, false, List, [], ◌++◌, Option, Result, Ok, Err, if◌then◌else◌, ⊤}
use Rattle.engine_ports.specs.Rose.{Rose}
use Rattle.engine_ports.specs.Source.{SourceView, SourceGave}
use Rattle.http_edge.specs.declared.head.Head.{Head}
use Rattle.response_reader.specs.Answers.{Answer, NoHead, Answered, TellsSoFar, TellsAll}
use Rattle.response_reader.specs.Heads.{first_in}
use Rattle.response_reader.specs.Held.{Reading}
use Rattle.response_reader.specs.Reader.{HasTaken}
use Rattle.response_reader.specs.declared.got.Stage.TheVariants as stage
use Rattle.client_model.specs.Plans.{Plan, Written, nothing, by_answer, status_in, refuses, fails}
use Rattle.client_model.specs.Runs.{ReadSo, shows_unfit}
use Rattle.client_model.specs.Streams.{shows, is_unfit}
use Rattle.client_model.specs.declared.fault.Fault.{Fault}
use Rattle.client_model.specs.declared.fault.Fault.TheVariants as F
use Rattle.client_exchange.specs.Outputs.{Outputs, BothTook, BothBegan, OutputsFail}
use Rattle.client_exchange.specs.Taking.{Taken, taken}
use Rattle.client_exchange.specs.declared.failure.Failure.{Failure}
use Rattle.client_exchange.specs.declared.got.Got.{Got}
use Rattle.client_model.specs.declared.showing.Showing.{Showing}

-- a source that came so gave this head and these bytes of its body, and a reader has taken them
pub record Stands (came : SourceView) (h : Head) (body : List ℕ) (r : Reading) (s : SourceView) : Type 0 where
  pub bytes : List ℕ
  pub taken : HasTaken bytes h body r
  pub gave : SourceGave came (bytes ++ r.ahead) s

-- what a source gave that came so was read as this answer, whose body can't be taken or can
pub record Told (unfit : Bool) (came s : SourceView) (answer : Answer) : Type 0 where
  pub bytes : List ℕ
  pub gave : SourceGave came bytes s
  pub is : ReadSo unfit bytes (nat_lt came.ends s.ends) answer

-- it gave at least so much of this answer
pub record ToldSoFar (came s : SourceView) (answer : Answer) : Type 0 where
  pub bytes : List ℕ
  pub gave : SourceGave came bytes s
  pub is : TellsSoFar bytes answer

-- an output failed, memory was refused, or the source failed
abbrev pub ReadFails : Fault → SourceView → SourceView → Outputs → Outputs → Type 0
ReadFails F.Connection came s o o' = Rose came.faults s.faults
ReadFails fault came s o o' = OutputsFail fault o o'

-- what was to be written by then, where this fault broke it off: to an output that failed something; and nothing, where memory
-- was refused
abbrev pub HadToWrite : Fault → Written → Type 0
HadToWrite F.Output w = ¬ (w.out ≡ [])
HadToWrite F.Errors w = ¬ (w.err ≡ [])
HadToWrite F.NoMemory w = w ≡ nothing
HadToWrite fault w = ⊤

-- where the connection failed, all that came of the answer is counted and could be taken, and all was written
abbrev pub CountsAll : Fault → Bool → List ℕ → Answer → Written → Written → Type 0
CountsAll fault unfit bytes answer part w =
    fault ≡ F.Connection → TellsAll bytes answer × (unfit ≡ false) × (part ≡ w)

-- the body was read, whole or not, and was shown; or so much of it, and fronts of that were shown
abbrev pub FollowSays : Result Bool Fault → SourceView → Head → Showing → Taken → SourceView → Outputs → Outputs → Type 0
FollowSays (Ok whole) came h showing t s o o' =
    (body : List ℕ) × (t ≡ taken showing body) × Told (is_unfit showing body) came s (Answered h body whole)
    × BothTook o (shows showing body) o'
FollowSays (Err fault) came h showing t s o o' =
    (body : List ℕ) × (told : ToldSoFar came s (Answered h body false)) × (began : BothBegan o (shows showing body) o')
    × ReadFails fault came s o o' × HadToWrite fault (shows showing body)
    × CountsAll fault (is_unfit showing body) told.bytes (Answered h body false) began.part (shows showing body)

-- ---- answers

-- by this answer every command fails so
abbrev pub Refuses : Answer → Fault → Type 0
Refuses answer fault = (next : Head → List ℕ → Bool → Plan) → by_answer next answer ≡ fails fault

-- before the head
abbrev pub unread_answer : Reading
unread_answer = record { ahead = []; taken = 0; from = 0; stage = stage.Head }

-- what the body of a refusal tells, but for want of memory
abbrev pub FaultSays : Fault → Bool → List ℕ → Type 0
FaultSays fault whole body =
    (fault ≡ F.NoMemory)
    ⊎ (refuses body whole ≡ fails fault)

-- what is shown of an answer
abbrev pub answer_shows : Showing → Answer → Written
answer_shows showing NoHead = nothing
answer_shows showing (Answered h body whole) = if nat_lt h.status 400 then shows showing body else nothing

-- an answer that doesn't refuse was read, and shown
pub record Goes (got : Got) (showing : Showing) (t : Taken) (came s : SourceView) (o o' : Outputs) : Type 0 where
  pub head : Head
  pub body : List ℕ
  pub below : nat_lt head.status 400 ≡ true
  pub status : got.status ≡ head.status
  pub first : got.first ≡ first_in head.form
  pub kept : t ≡ taken showing body
  pub told : Told (shows_unfit showing (Answered head body got.whole)) came s (Answered head body got.whole)
  pub took : BothTook o (shows showing body) o'

-- an answer of this status by which every command fails so was read
pub record IsRefused (fault : Fault) (status : Option ℕ) (showing : Showing) (came s : SourceView) (o o' : Outputs) : Type 0 where
  pub answer : Answer
  pub has : status_in answer ≡ status
  pub told : Told (shows_unfit showing answer) came s answer
  pub refuses : Refuses answer fault
  pub took : BothTook o nothing o'

-- at least so much of an answer came, and fronts of what is shown of that were written
pub record BreaksOff (fault : Fault) (showing : Showing) (came s : SourceView) (o o' : Outputs) : Type 0 where
  pub answer : Answer
  pub told : ToldSoFar came s answer
  pub began : BothBegan o (answer_shows showing answer) o'
  pub cause : ReadFails fault came s o o'
  pub had : HadToWrite fault (answer_shows showing answer)
  pub all : CountsAll fault (shows_unfit showing answer) told.bytes answer began.part (answer_shows showing answer)

-- what reading a refusal of this status says
abbrev pub RefusalSays : Fault → Option ℕ → SourceView → SourceView → Outputs → Outputs → Type 0
RefusalSays fault status came s o o' =
    (showing : Showing) → IsRefused fault status showing came s o o' ⊎ BreaksOff fault showing came s o o'

-- what reading an answer says
abbrev pub AnswerSays : Result Got Failure → Showing → Taken → SourceView → SourceView → Outputs → Outputs → Type 0
AnswerSays (Ok got) showing t came s o o' = Goes got showing t came s o o'
AnswerSays (Err failure) showing t came s o o' =
    IsRefused failure.fault failure.status showing came s o o' ⊎ BreaksOff failure.fault showing came s o o'
