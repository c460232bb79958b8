-- One request over a connection of its own, and its answer (own: told of the bytes that are sent, whatever they are).
use Rattle.std.specs.Prelude.{ℕ, ◌≡◌, ◌⊎◌, nat_lt, true, List, [], ◌∷◌, Option, Result, Ok, Err, ⊤}
use Rattle.engine_ports.specs.Rose.{Rose}
use Rattle.engine_ports.specs.Source.{SourceView}
use Rattle.engine_ports.specs.Sink.{SinkView, SinkTook, IsFront}
use Rattle.engine_ports.specs.Link.{LinkView}
use Rattle.http_edge.specs.declared.head.Head.{Head}
use Rattle.response_reader.specs.Answers.{Answer, Answered, TellsSoFar}
use Rattle.response_reader.specs.Heads.{first_in}
use Rattle.client_model.specs.Plans.{nothing, status_in}
use Rattle.client_model.specs.Streams.{shows}
use Rattle.client_model.specs.Runs.{Exchange, has_ended, shows_unfit, IsRead, WasSent, HaveCome, AreLeft, HasFailed, missed_by}
use Rattle.client_model.specs.declared.fault.Fault.{Fault}
use Rattle.client_model.specs.declared.fault.Fault.TheVariants as F
use Rattle.client_exchange.specs.Outputs.{Outputs, outputs, BothTook, BothBegan, OutputsFail}
use Rattle.client_exchange.specs.Taking.{Taken, taken}
use Rattle.client_exchange.specs.Telling.{HadToWrite, CountsAll, Refuses, answer_shows, AnswerSays}
use Rattle.client_exchange.specs.declared.failure.Failure.{Failure}
use Rattle.client_exchange.specs.declared.got.Got.{Got}
use Rattle.client_model.specs.declared.showing.Showing.{Showing}

-- what a request reaches: the link but for the call's address, and the outputs
pub record Reach : Type 0 where
  pub link : LinkView
  pub shown : Outputs

abbrev pub reach : LinkView → SinkView → SinkView → Reach
reach link out err = record { link = link; shown = outputs out err }

-- ---- on a connection

-- why not all was sent: the connection failed, or what was to be sent couldn't be had
abbrev pub SendFails : Type 0 → Fault → SinkView → SinkView → Type 0
SendFails starved F.Connection u u' = Rose u.faults u'.faults
SendFails starved F.Input u u' = starved
SendFails starved fault u u' = ⊥

-- a front of the bytes was sent, and nothing read
pub record IsUnsent (bytes : List ℕ) (starved : Type 0) (result : Result Got Failure) (s s' : SourceView) (u u' : SinkView) (o o' : Outputs) : Type 0 where
  pub failure : Failure
  pub is : result ≡ Err failure
  pub unread : s' ≡ s
  pub unshown : o' ≡ o
  pub part : List ℕ
  pub front : IsFront part bytes
  pub took : SinkTook u part u'
  pub cause : SendFails starved failure.fault u u'

-- the bytes were sent, and the answer read; or a front of them was sent
abbrev pub ConverseSays : List ℕ → Type 0 → Result Got Failure → Showing → Taken → SourceView → SourceView → SinkView → SinkView → Outputs → Outputs → Type 0
ConverseSays bytes starved result showing t s s' u u' o o' =
    (SinkTook u bytes u' × AnswerSays result showing t s s' o o') ⊎ IsUnsent bytes starved result s s' u u' o o'

-- ---- over the link

-- one connection was made at the first try, and left; of other addresses the link tells what it told
pub record MeetsOne (v v' : LinkView) (x : Exchange) : Type 0 where
  pub came : HaveCome v.coming (x.came ∷ []) v'.coming
  pub left : AreLeft v.past (x.left ∷ []) v'.past
  pub others : v'.addresses ≡ v.addresses
  pub faults : v'.faults ≡ v.faults

-- it was sent the request, and what it gave was read as this answer
pub record IsAnswered (request : List ℕ) (showing : Showing) (answer : Answer) (v v' : LinkView) : Type 0 where
  pub exchange : Exchange
  pub meets : MeetsOne v v' exchange
  pub sent : exchange.sent ≡ request
  pub is : IsRead showing exchange.given (has_ended exchange) answer

-- none was made, and of other addresses the link tells what it told; one try failed where the fault is the link's
pub record IsMissed (fault : Fault) (v v' : LinkView) : Type 0 where
  pub coming : v'.coming ≡ v.coming
  pub past : v'.past ≡ v.past
  pub others : v'.addresses ≡ v.addresses
  pub faults : v'.faults ≡ missed_by fault v.faults

-- an answer that doesn't refuse was read, and shown
pub record HasGone (request : List ℕ) (got : Got) (showing : Showing) (t : Taken) (o o' : Reach) : Type 0 where
  pub head : Head
  pub body : List ℕ
  pub below : nat_lt head.status 400 ≡ true
  pub status : got.status ≡ head.status
  pub first : got.first ≡ first_in head.form
  pub kept : t ≡ taken showing body
  pub answered : IsAnswered request showing (Answered head body got.whole) o.link o'.link
  pub took : BothTook o.shown (shows showing body) o'.shown

-- one of this status by which every command fails so was read
pub record HasRefused (request : List ℕ) (fault : Fault) (status : Option ℕ) (showing : Showing) (o o' : Reach) : Type 0 where
  pub answer : Answer
  pub has : status_in answer ≡ status
  pub answered : IsAnswered request showing answer o.link o'.link
  pub refuses : Refuses answer fault
  pub took : BothTook o.shown nothing o'.shown

-- an output failed, memory was refused, the connection failed, or what was to be sent couldn't be had
abbrev pub FailsOn : Type 0 → Fault → Exchange → Outputs → Outputs → Type 0
FailsOn starved F.Connection x o o' = HasFailed x
FailsOn starved F.Input x o o' = starved
FailsOn starved fault x o o' = OutputsFail fault o o'

-- an exchange broke off: at least so much of an answer came, and fronts of what is shown of that were written
pub record HasBroken (bytes : List ℕ) (starved : Type 0) (fault : Fault) (showing : Showing) (o o' : Reach) : Type 0 where
  pub answer : Answer
  pub exchange : Exchange
  pub meets : MeetsOne o.link o'.link exchange
  pub sent : WasSent fault exchange bytes
  pub tells : TellsSoFar exchange.given answer
  pub began : BothBegan o.shown (answer_shows showing answer) o'.shown
  pub cause : FailsOn starved fault exchange o.shown o'.shown
  pub had : HadToWrite fault (answer_shows showing answer)
  pub all : CountsAll fault (shows_unfit showing answer) exchange.given answer began.part (answer_shows showing answer)

-- what keeps a connection from being made: the link, or want of memory
abbrev pub KeepsOff : Fault → Type 0
KeepsOff F.Link = ⊤
KeepsOff F.NoMemory = ⊤
KeepsOff fault = ⊥

-- no connection was made, and nothing shown
pub record HasMissed (fault : Fault) (o o' : Reach) : Type 0 where
  pub missed : IsMissed fault o.link o'.link
  pub shown : o'.shown ≡ o.shown
  pub cause : KeepsOff fault

-- the answer refused, the exchange broke off, or no connection was made
abbrev pub FailsSo : List ℕ → Failure → Showing → Reach → Reach → Type 0
FailsSo request failure showing o o' =
    HasRefused request failure.fault failure.status showing o o'
    ⊎ (HasBroken request ⊥ failure.fault showing o o' ⊎ HasMissed failure.fault o o')

-- what an exchange says
abbrev pub ExchangeSays : List ℕ → Result Got Failure → Showing → Taken → Reach → Reach → Type 0
ExchangeSays request (Ok got) showing t o o' = HasGone request got showing t o o'
ExchangeSays request (Err failure) showing t o o' = FailsSo request failure showing o o'
