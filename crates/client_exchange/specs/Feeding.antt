-- A request that standard input follows to its end (own).
use Rattle.std.specs.Prelude.{ℕ, ◌≡◌, ◌⊎◌, Bool, true, false, List, [], ◌++◌, Result, Ok, Err}
use Rattle.std.specs.List.{list_any}
use Rattle.engine_ports.specs.Rose.{Rose}
use Rattle.engine_ports.specs.Source.{SourceView, SourceGave, SourceEnded}
use Rattle.engine_ports.specs.Sink.{SinkView, SinkTook, IsFront}
use Rattle.client_model.specs.Plans.{Plan}
use Rattle.client_model.specs.declared.fault.Fault.{Fault}
use Rattle.client_exchange.specs.Outputs.{Outputs}
use Rattle.client_exchange.specs.Taking.{Taken}
use Rattle.client_model.specs.declared.showing.Showing.{Showing}
use Rattle.client_exchange.specs.declared.failure.Failure.{Failure}
use Rattle.client_exchange.specs.declared.got.Got.{Got}
use Rattle.client_exchange.specs.Telling.{AnswerSays}
use Rattle.client_exchange.specs.Exchanges.{Reach, SendFails, IsUnsent, HasGone, HasRefused, HasBroken, HasMissed, ExchangeSays}
use Rattle.client_exchange.specs.Walks.{Walked, Walks, StopsIn, Comes, Does}

-- ---- on a connection

-- standard input failed
abbrev pub InputFails : SourceView → SourceView → Type 0
InputFails v v' = Rose v.faults v'.faults

-- these bytes were sent, and then standard input to its end
pub record HasSent (bytes : List ℕ) (v v' : SourceView) (u u' : SinkView) : Type 0 where
  pub input : List ℕ
  pub gave : SourceGave v input v'
  pub ended : SourceEnded v v'
  pub took : SinkTook u (bytes ++ input) u'

-- a front of them was sent, and of what standard input gave
pub record HasSentSoFar (bytes : List ℕ) (fault : Fault) (v v' : SourceView) (u u' : SinkView) : Type 0 where
  pub input : List ℕ
  pub gave : SourceGave v input v'
  pub part : List ℕ
  pub front : IsFront part (bytes ++ input)
  pub took : SinkTook u part u'
  pub cause : SendFails (InputFails v v') fault u u'

abbrev pub SendSays : List ℕ → Result (Unit {0}) Fault → SourceView → SourceView → SinkView → SinkView → Type 0
SendSays bytes (Ok x) v v' u u' = HasSent bytes v v' u u'
SendSays bytes (Err fault) v v' u u' = HasSentSoFar bytes fault v v' u u'

-- a request was sent with its input, and its answer read; or a front of them was sent
abbrev pub TalkSays : List ℕ → Result Got Failure → Showing → Taken → SourceView → SourceView → SourceView → SourceView → SinkView → SinkView → Outputs → Outputs → Type 0
TalkSays request result showing t v v' s s' u u' o o' =
    (input : List ℕ) × SourceGave v input v'
    × ((SourceEnded v v' × (SinkTook u (request ++ input) u' × AnswerSays result showing t s s' o o'))
    ⊎ IsUnsent (request ++ input) (InputFails v v') result s s' u u' o o')

-- ---- over the link

-- the answer to these bytes and this input refused, or the exchange broke off; the input came to its end, where the
-- exchange gave anything
abbrev pub FedFailsBy : List ℕ → List ℕ → Failure → Showing → SourceView → SourceView → Reach → Reach → Type 0
FedFailsBy request input failure showing v v' o o' =
    (SourceEnded v v' × HasRefused (request ++ input) failure.fault failure.status showing o o')
    ⊎ ((b : HasBroken (request ++ input) (InputFails v v') failure.fault showing o o')
    × (SourceEnded v v' ⊎ (b.exchange.given ≡ [])))

-- so much input came for an exchange that failed; or no connection was made, and no input read
abbrev pub FedFails : List ℕ → Failure → Showing → SourceView → SourceView → Reach → Reach → Type 0
FedFails request failure showing v v' o o' =
    ((input : List ℕ) × SourceGave v input v' × FedFailsBy request input failure showing v v' o o')
    ⊎ ((v' ≡ v) × HasMissed failure.fault o o')

-- what an exchange with input says
abbrev pub FedSays : List ℕ → Result Got Failure → Showing → Taken → SourceView → SourceView → Reach → Reach → Type 0
FedSays request (Ok got) showing t v v' o o' =
    (input : List ℕ) × SourceGave v input v' × SourceEnded v v' × HasGone (request ++ input) got showing t o o'
FedSays request (Err failure) showing t v v' o o' = FedFails request failure showing v v' o o'

-- standard input follows the request, or is untouched
abbrev pub SaysAs : Bool → List ℕ → Result Got Failure → Showing → Taken → SourceView → SourceView → Reach → Reach → Type 0
SaysAs true request result showing t v v' o o' = FedSays request result showing t v v' o o'
SaysAs false request result showing t v v' o o' = ExchangeSays request result showing t o o' × (v' ≡ v)

-- ---- by the plan that asks it

-- whole exchanges bring a plan to the next, and all of standard input follows one of their requests
pub record Feeds (plan : Plan) (v v' : SourceView) (o : Reach) (next : Plan) (o' : Reach) : Type 0 where
  pub input : List ℕ
  pub way : Walked plan input o next o'
  pub loud : list_any (λ a. a.input) way.asked ≡ true
  pub gave : SourceGave v input v'
  pub ended : SourceEnded v v'

-- behind whole exchanges without input it broke off in one that standard input follows
pub record StopsFeeding (plan : Plan) (fault : Fault) (v v' : SourceView) (o o' : Reach) : Type 0 where
  pub next : Plan
  pub between : Reach
  pub walks : Walks plan o next between
  pub input : List ℕ
  pub gave : SourceGave v input v'
  pub stops : StopsIn next input (InputFails v v') fault between o'
  pub loud : stops.asks.asked.input ≡ true
  pub fed : SourceEnded v v' ⊎ (stops.exchange.given ≡ [])

-- the input was sent, and the plan behind it ended or broke off
pub record DoesBehind (plan : Plan) (result : Result ℕ Fault) (v v' : SourceView) (o o' : Reach) : Type 0 where
  pub next : Plan
  pub between : Reach
  pub feeds : Feeds plan v v' o next between
  pub comes : Comes next result between o'

-- what was done of a plan of which one request is followed by standard input: its input wasn't come to, or was sent, or
-- the plan broke off there
abbrev pub FedDoes : Plan → Result ℕ Fault → SourceView → SourceView → Reach → Reach → Type 0
FedDoes plan result v v' o o' =
    (Does plan result o o' × (v' ≡ v))
    ⊎ (DoesBehind plan result v v' o o' ⊎ ((fault : Fault) × (result ≡ Err fault) × StopsFeeding plan fault v v' o o'))
