-- What one call of the client says of the outside: what it was given, what it sent and wrote, and its status (own).
use Rattle.std.specs.Prelude.{ℕ, ◌≡◌, ◌⊎◌, nat_lt, Bool, true, false, List, [], ◌∷◌, ◌++◌, length, map, Option, Some, None, ⊤, if◌then◌else◌}
use Rattle.std.specs.List.{list_any}
use Rattle.engine_ports.specs.Rose.{Rose, raised}
use Rattle.engine_ports.specs.Source.{SourceView, SourceGave, SourceEnded}
use Rattle.engine_ports.specs.Sink.{SinkView, SinkTook, IsFront}
use Rattle.engine_ports.specs.Link.{LinkView, Wire, others}
use Rattle.http_edge.specs.declared.head.Head.{Head}
use Rattle.response_reader.specs.Answers.{Answer, NoHead, Answered, IsAnswer, TellsSoFar, TellsAll}
use Rattle.client_model.specs.Requests.{request_bytes}
use Rattle.client_model.specs.Faults.{status_of, fault_line}
use Rattle.client_model.specs.Judgement.{Judgement}
use Rattle.client_model.specs.Plans.{Plan, Judges, Written, nothing, Asked, Ending, Fails}
use Rattle.client_model.specs.Lines.{address_in}
use Rattle.client_model.specs.Streams.{is_unfit}
use Rattle.client_model.specs.Client.{Said, plan_for, said_by, IsJudged, status_at, line_at}
use Rattle.client_model.specs.declared.fault.Fault.{Fault}
use Rattle.client_model.specs.declared.fault.Fault.TheVariants as F
use Rattle.client_model.specs.declared.showing.Showing.{Showing}
use Rattle.client_model.specs.declared.showing.Showing.TheVariants.{Kept}

-- what a client has outside: its link, standard input, output and error
pub record Outside : Type 0 where
  pub link : LinkView
  pub input : SourceView
  pub out : SinkView
  pub err : SinkView

-- ---- connections

-- a connection as it came and as it was left: it gave these bytes, and its end or not, and was sent those
pub record Exchange : Type 0 where
  pub came : Wire
  pub left : Wire
  pub given : List ℕ
  pub sent : List ℕ
  pub gave : SourceGave came.source given left.source
  pub took : SinkTook came.sink sent left.sink

-- its source gave its end
abbrev pub has_ended : Exchange → Bool
has_ended x = nat_lt x.came.source.ends x.left.source.ends

-- how the body of an answer is taken: that of a refusal is kept
abbrev pub taken_as : Showing → Head → Showing
taken_as showing h = if nat_lt h.status 400 then showing else Kept

-- so much of an answer shows that its body can't be taken
abbrev pub shows_unfit : Showing → Answer → Bool
shows_unfit showing NoHead = false
shows_unfit showing (Answered h body whole) = is_unfit (taken_as showing h) body

-- the bytes of a connection, whose source gave its end or not, were read as this answer: to its end; or, where its body can't
-- be taken, as far as it came
abbrev pub ReadSo : Bool → List ℕ → Bool → Answer → Type 0
ReadSo false bytes ended answer = IsAnswer bytes ended answer
ReadSo true bytes ended answer = TellsSoFar bytes answer

abbrev pub IsRead : Showing → List ℕ → Bool → Answer → Type 0
IsRead showing bytes ended answer = ReadSo (shows_unfit showing answer) bytes ended answer

-- what each gave was read as this answer to what was asked
abbrev pub AreAnswered : List Exchange → List Asked → List Answer → Type 0
AreAnswered [] [] [] = ⊤
AreAnswered (x ∷ xs) (asked ∷ more) (answer ∷ answers) =
    IsRead asked.showing x.given (has_ended x) answer × AreAnswered xs more answers
AreAnswered xs asked answers = ⊥

-- what a connection is sent: a request, and then maybe all that standard input gives
abbrev pub sent_by : List ℕ → Asked → List ℕ
sent_by input asked = if asked.input then request_bytes asked.request ++ input else request_bytes asked.request

-- it was sent a front of these bytes, and gave nothing
abbrev pub IsSilent : Exchange → List ℕ → Type 0
IsSilent x bytes = IsFront x.sent bytes × (x.given ≡ [])

-- it was sent all of these bytes; it is silent where what was to be sent couldn't be had, and maybe where it failed
abbrev pub WasSent : Fault → Exchange → List ℕ → Type 0
WasSent F.Connection x bytes = (x.sent ≡ bytes) ⊎ IsSilent x bytes
WasSent F.Input x bytes = IsSilent x bytes
WasSent fault x bytes = x.sent ≡ bytes

-- it failed
abbrev pub HasFailed : Exchange → Type 0
HasFailed x =
    Rose x.came.source.faults x.left.source.faults ⊎ Rose x.came.sink.faults x.left.sink.faults

-- a link that tells its connections gave these, and has these behind its past
abbrev pub HaveCome : Option (List Wire) → List Wire → Option (List Wire) → Type 0
HaveCome (Some before) came (Some now) = before ≡ came ++ now
HaveCome None came None = ⊤
HaveCome before came now = ⊥

abbrev pub AreLeft : Option (List Wire) → List Wire → Option (List Wire) → Type 0
AreLeft (Some before) left (Some now) = now ≡ before ++ left
AreLeft None left None = ⊤
AreLeft before left now = ⊥

-- in this call these connections were made, in this order; the link tells no address more but this; and standard input gave
-- this
pub record Meets (address : List ℕ) (o o' : Outside) (xs : List Exchange) (input : List ℕ) : Type 0 where
  pub came : HaveCome o.link.coming (map (λ x. x.came) xs) o'.link.coming
  pub left : AreLeft o.link.past (map (λ x. x.left) xs) o'.link.past
  pub others : others address o'.link.addresses ≡ others address o.link.addresses
  pub input_gave : SourceGave o.input input o'.input

-- how often no connection could be made, behind this fault: once more where it is the link's
abbrev pub missed_by : Fault → ℕ → ℕ
missed_by F.Link missed = raised missed
missed_by fault missed = missed

-- ---- what is read and written

-- standard input is asked for: to be judged, or to follow one of these requests
abbrev pub asks_input : Plan → List Asked → Bool
asks_input (Judges charter next) asked = true
asks_input plan asked = list_any (λ a. a.input) asked

-- standard input: it was read to its end, where it was asked for before; so it was, or nothing was given, where it is asked for
-- now, by an exchange that gave this; else it is untouched
abbrev pub InputStands : Bool → Bool → List ℕ → List ℕ → SourceView → SourceView → Type 0
InputStands true now given input v v' = SourceEnded v v'
InputStands false true given input v v' = SourceEnded v v' ⊎ (given ≡ [])
InputStands false false given input v v' = (input ≡ []) × (v' ≡ v)

-- this begins what is written
pub record AreFronts (part w : Written) : Type 0 where
  pub out : IsFront part.out w.out
  pub err : IsFront part.err w.err

-- all of the line was written; or a front of it, and standard error failed in this call
abbrev pub WroteLine : SinkView → List ℕ → List ℕ → SinkView → Type 0
WroteLine v part line v' = (part ≡ line) ⊎ (IsFront part line × Rose v.faults v'.faults)

-- ---- a call that comes to its end

-- whole exchanges of a plan, behind its judgement where it asks for one: each connection gave its answer, and was sent all that
-- was asked
pub record AreWhole (plan : Plan) (judgement : Option Judgement) (input : List ℕ) (xs : List Exchange) (answers : List Answer) (asked : List Asked) : Type 0 where
  pub judged : IsJudged plan input judgement
  pub answered : AreAnswered xs asked answers
  pub sent : map (λ x. x.sent) xs ≡ map (sent_by input) asked

-- all that was asked was sent and answered, and all that is said was written
pub record IsEnded (words : List (List ℕ)) (status : ℕ) (o o' : Outside) : Type 0 where
  pub xs : List Exchange
  pub answers : List Answer
  pub input : List ℕ
  pub judgement : Option Judgement
  pub said : Said
  pub ending : Ending
  pub part : List ℕ
  pub meets : Meets (address_in words) o o' xs input
  pub missed : o'.link.faults ≡ o.link.faults
  pub whole : AreWhole (plan_for words) judgement input xs answers said.asked
  pub says : said ≡ said_by (plan_for words) judgement answers
  pub ended : said.end ≡ Some ending
  pub input_read : InputStands (asks_input (plan_for words) said.asked) false [] input o.input o'.input
  pub out : SinkTook o.out said.written.out o'.out
  pub err : SinkTook o.err (said.written.err ++ part) o'.err
  pub line : WroteLine o.err part (line_at words ending) o'.err
  pub status_is : status ≡ status_at ending

-- ---- a call that a fault of the outside, or want of memory, breaks off

-- what there was by then: connections, what standard input gave and the judgement on it, what was said, and what of that was
-- written
pub record Course : Type 0 where
  pub xs : List Exchange
  pub input : List ℕ
  pub judgement : Option Judgement
  pub said : Said
  pub wrote : Written

-- a judgement was to come, and none did: standard input failed, or memory was refused
pub record LacksJudgement (plan : Plan) (fault : Fault) (c : Course) (o o' : Outside) : Type 0 where
  pub judging : asks_input plan [] ≡ true
  pub none : c.judgement ≡ None
  pub unasked : c.xs ≡ []
  pub says : c.said ≡ said_by plan None []
  pub cause : (fault ≡ F.NoMemory) ⊎ ((fault ≡ F.Input) × Rose o.input.faults o'.input.faults)

-- it hasn't ended by a fault
abbrev pub IsUnfailed : Option Ending → Type 0
IsUnfailed (Some (Fails fault)) = ⊥
IsUnfailed end = ⊤

-- all answers but the last
abbrev pub but_last : Answer → List Answer → List Answer
but_last answer [] = []
but_last answer (next ∷ answers) = answer ∷ but_last next answers

-- what was said before the last of these answers came; nothing, where there is none
abbrev pub said_sooner : Plan → Option Judgement → List Answer → Written
said_sooner plan judgement [] = nothing
said_sooner plan judgement (answer ∷ answers) = (said_by plan judgement (but_last answer answers)).written

-- why it breaks off behind exchanges: an output failed to which something was to be written that was said since; memory was
-- refused; or, where all is written that is said, no connection could be made for the one request more
abbrev pub CauseBehind : Fault → Course → Written → List Asked → Outside → Outside → Type 0
CauseBehind F.Output c sooner more o o' = Rose o.out.faults o'.out.faults × ¬ (c.said.written.out ≡ sooner.out)
CauseBehind F.NoMemory c sooner more o o' = ⊤
CauseBehind F.Link c sooner more o o' = (c.wrote ≡ c.said.written) × (length more ≡ 1)
CauseBehind fault c sooner more o o' = ⊥

-- Behind whole exchanges, maybe none: all was written that was said before the last answer came. Unless memory was refused,
-- the command hadn't ended by a fault of its own.
pub record BreaksBehind (plan : Plan) (fault : Fault) (c : Course) (o o' : Outside) : Type 0 where
  pub answers : List Answer
  pub done : List Asked
  pub more : List Asked
  pub whole : AreWhole plan c.judgement c.input c.xs answers done
  pub says : c.said ≡ said_by plan c.judgement answers
  pub asked : c.said.asked ≡ done ++ more
  pub input_read : InputStands (asks_input plan done) false [] c.input o.input o'.input
  pub wrote : AreFronts (said_sooner plan c.judgement answers) c.wrote
  pub unfailed : (fault ≡ F.NoMemory) ⊎ IsUnfailed c.said.end
  pub cause : CauseBehind fault c (said_sooner plan c.judgement answers) more o o'

-- why it breaks off within an exchange, by what was said before it and in it: its connection failed, all that came of the
-- answer is counted and could be taken, and all was written; the input behind its request failed; an output failed to which
-- something was to be written that was said in it; or memory was refused, where nothing was
abbrev pub CauseWithin : Fault → Exchange → Answer → Asked → Course → Written → Outside → Outside → Type 0
CauseWithin F.Connection x answer now c sooner o o' =
    HasFailed x × TellsAll x.given answer × (shows_unfit now.showing answer ≡ false) × (c.wrote ≡ c.said.written)
CauseWithin F.Input x answer now c sooner o o' = (now.input ≡ true) × Rose o.input.faults o'.input.faults
CauseWithin F.Output x answer now c sooner o o' = Rose o.out.faults o'.out.faults × ¬ (c.said.written.out ≡ sooner.out)
CauseWithin F.Errors x answer now c sooner o o' = Rose o.err.faults o'.err.faults × ¬ (c.said.written.err ≡ sooner.err)
CauseWithin F.NoMemory x answer now c sooner o o' = c.said.written ≡ sooner
CauseWithin fault x answer now c sooner o o' = ⊥

-- Within the last exchange, behind whole ones: all was written that is said by their answers, and its connection told at
-- least so much of an answer.
pub record BreaksWithin (plan : Plan) (fault : Fault) (c : Course) (o o' : Outside) : Type 0 where
  pub before : List Exchange
  pub last : Exchange
  pub answers : List Answer
  pub answer : Answer
  pub done : List Asked
  pub now : Asked
  pub more : List Asked
  pub xs_are : c.xs ≡ before ++ last ∷ []
  pub whole : AreWhole plan c.judgement c.input before answers done
  pub tells : TellsSoFar last.given answer
  pub says : c.said ≡ said_by plan c.judgement (answers ++ answer ∷ [])
  pub asked : c.said.asked ≡ done ++ now ∷ more
  pub sent : WasSent fault last (sent_by c.input now)
  pub input_read : InputStands (asks_input plan done) now.input last.given c.input o.input o'.input
  pub wrote : AreFronts (said_by plan c.judgement answers).written c.wrote
  pub cause : CauseWithin fault last answer now c (said_by plan c.judgement answers).written o o'

-- so it broke off, and fronts of what is said by then were written
pub record IsBrokenOff (words : List (List ℕ)) (status : ℕ) (o o' : Outside) : Type 0 where
  pub fault : Fault
  pub course : Course
  pub part : List ℕ
  pub meets : Meets (address_in words) o o' course.xs course.input
  pub missed : o'.link.faults ≡ missed_by fault o.link.faults
  pub breaks : LacksJudgement (plan_for words) fault course o o'
      ⊎ (BreaksBehind (plan_for words) fault course o o' ⊎ BreaksWithin (plan_for words) fault course o o')
  pub fronts : AreFronts course.wrote course.said.written
  pub out : SinkTook o.out course.wrote.out o'.out
  pub err : SinkTook o.err (course.wrote.err ++ part) o'.err
  pub line : WroteLine o.err part (fault_line words fault) o'.err
  pub status_is : status ≡ status_of fault

-- what one call says
abbrev pub Runs : List (List ℕ) → ℕ → Outside → Outside → Type 0
Runs words status o o' = IsEnded words status o o' ⊎ IsBrokenOff words status o o'
