-- A command on its way: whole exchanges bring it from plan to plan, and then it ends or breaks off (own).
use Rattle.std.specs.Prelude.{ℕ, ◌≡◌, ◌⊎◌, false, List, [], ◌∷◌, ◌++◌, map, None, Result, Ok, Err, ⊤}
use Rattle.std.specs.List.{list_any}
use Rattle.engine_ports.specs.Rose.{Rose}
use Rattle.response_reader.specs.Answers.{Answer, TellsSoFar}
use Rattle.client_model.specs.Plans.{Plan, Ends, Asks, Judges, Asked, Written, Ending, Done, Fails, nothing, joined}
use Rattle.client_model.specs.Client.{Said, said, said_by}
use Rattle.client_model.specs.Runs.{Exchange, shows_unfit, AreAnswered, WasSent, HaveCome, AreLeft, AreFronts, sent_by, IsUnfailed}
use Rattle.client_model.specs.declared.fault.Fault.{Fault}
use Rattle.client_model.specs.declared.fault.Fault.TheVariants as F
use Rattle.client_exchange.specs.Outputs.{BothTook, BothBegan}
use Rattle.client_exchange.specs.Telling.{HadToWrite, CountsAll}
use Rattle.client_exchange.specs.Exchanges.{Reach, MeetsOne, IsMissed, FailsOn}

-- standard input follows none of these requests
abbrev pub AreQuiet : List Asked → Type 0
AreQuiet asked = list_any (λ a. a.input) asked ≡ false

-- it doesn't read standard input for a verdict
abbrev pub IsAsking : Plan → Type 0
IsAsking (Judges charter next) = ⊥
IsAsking plan = ⊤

-- behind these requests, and what was written first
abbrev pub said_behind : List Asked → Written → Said → Said
said_behind asked w s = said (asked ++ s.asked) (joined w s.written) s.end

-- all was written that was said before the last of these answers
abbrev pub WroteBefore : Plan → List Answer → Written → Type 0
WroteBefore plan answers wrote =
    (before : List Answer) (last : Answer) → answers ≡ before ++ last ∷ [] → AreFronts (said_by plan None before).written wrote

-- whole exchanges, each over a connection of the first try, bring a plan to the next, and this was written; of other addresses
-- the link tells what it told; a request may be followed by this input
pub record Walked (plan : Plan) (input : List ℕ) (o : Reach) (next : Plan) (o' : Reach) : Type 0 where
  pub xs : List Exchange
  pub answers : List Answer
  pub asked : List Asked
  pub written : Written
  pub answered : AreAnswered xs asked answers
  pub came : HaveCome o.link.coming (map (λ x. x.came) xs) o'.link.coming
  pub left : AreLeft o.link.past (map (λ x. x.left) xs) o'.link.past
  pub others : o'.link.addresses ≡ o.link.addresses
  pub faults : o'.link.faults ≡ o.link.faults
  pub sent : map (λ x. x.sent) xs ≡ map (sent_by input) asked
  pub took : BothTook o.shown written o'.shown
  pub wrote : WroteBefore plan answers written
  pub says : (more : List Answer) → said_by plan None (answers ++ more) ≡ said_behind asked written (said_by next None more)

-- and standard input follows none of them
pub record Walks (plan : Plan) (o : Reach) (next : Plan) (o' : Reach) : Type 0 where
  pub way : Walked plan [] o next o'
  pub quiet : AreQuiet way.asked

-- a plan ends so, and all that it writes was written
pub record Finishes (plan : Plan) (ending : Ending) (o o' : Reach) : Type 0 where
  pub written : Written
  pub is : plan ≡ Ends written ending
  pub took : BothTook o.shown written o'.shown
  pub link : o'.link ≡ o.link

-- it asks this before it writes anything
pub record AsksFirst (plan : Plan) : Type 0 where
  pub asked : Asked
  pub next : Answer → Plan
  pub is : plan ≡ Asks nothing asked next

-- why nothing more was asked: standard output failed, to which something was to be written; memory was refused; or no
-- connection was made for the next request
abbrev pub FailsAlone : Plan → Fault → Reach → Reach → Type 0
FailsAlone plan F.Output o o' =
    Rose o.shown.out.faults o'.shown.out.faults × ¬ ((said_by plan None []).written.out ≡ [])
FailsAlone plan F.NoMemory o o' = ⊤
FailsAlone plan F.Link o o' = AsksFirst plan
FailsAlone plan fault o o' = ⊥

-- it broke off before anything more was sent, and, unless memory was refused, before it ended by a fault of its own: fronts of
-- what it writes first were written
pub record StopsBefore (plan : Plan) (fault : Fault) (o o' : Reach) : Type 0 where
  pub missed : IsMissed fault o.link o'.link
  pub began : BothBegan o.shown (said_by plan None []).written o'.shown
  pub cause : FailsAlone plan fault o o'
  pub unfailed : (fault ≡ F.NoMemory) ⊎ IsUnfailed (said_by plan None []).end

-- it broke off in its next exchange, whose request this input may follow: at least so much of an answer came, and fronts of
-- what it writes by that were written
pub record StopsIn (plan : Plan) (input : List ℕ) (starved : Type 0) (fault : Fault) (o o' : Reach) : Type 0 where
  pub asks : AsksFirst plan
  pub exchange : Exchange
  pub answer : Answer
  pub meets : MeetsOne o.link o'.link exchange
  pub tells : TellsSoFar exchange.given answer
  pub sent : WasSent fault exchange (sent_by input asks.asked)
  pub began : BothBegan o.shown (said_by plan None (answer ∷ [])).written o'.shown
  pub cause : FailsOn starved fault exchange o.shown o'.shown
  pub had : HadToWrite fault (said_by plan None (answer ∷ [])).written
  pub all : CountsAll fault (shows_unfit asks.asked.showing answer) exchange.given answer began.part
      (said_by plan None (answer ∷ [])).written

-- in one whose request no input follows
pub record StopsQuietly (plan : Plan) (fault : Fault) (o o' : Reach) : Type 0 where
  pub stops : StopsIn plan [] ⊥ fault o o'
  pub quiet : stops.asks.asked.input ≡ false

abbrev pub Stops : Plan → Fault → Reach → Reach → Type 0
Stops plan fault o o' = StopsBefore plan fault o o' ⊎ StopsQuietly plan fault o o'

-- how a plan that was reached came out: it ended so, or broke off
abbrev pub Comes : Plan → Result ℕ Fault → Reach → Reach → Type 0
Comes plan (Ok status) o o' = Finishes plan (Done status) o o'
Comes plan (Err fault) o o' = Finishes plan (Fails fault) o o' ⊎ Stops plan fault o o'

-- what was done of a plan: whole exchanges, and then its end, or what broke it off
pub record Does (plan : Plan) (result : Result ℕ Fault) (o o' : Reach) : Type 0 where
  pub next : Plan
  pub between : Reach
  pub walks : Walks plan o next between
  pub comes : Comes next result between o'
