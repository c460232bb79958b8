-- One step of a command (own).
use Rattle.std.specs.Prelude.{ℕ, ◌≡◌, ◌≤◌, ⊤, Bool, Result, Ok, Err}
use Rattle.engine_ports.specs.Source.{SourceView}
use Rattle.machine_model.specs.History.{greatest_moment}
use Rattle.client_model.specs.Plans.{Plan}
use Rattle.client_model.specs.declared.fault.Fault.{Fault}
use Rattle.client_exchange.specs.Exchanges.{Reach}
use Rattle.client_exchange.specs.Walks.{IsAsking}
use Rattle.client_exchange.specs.Asking.{Brings, DoesAs}
use Rattle.engine_client.specs.Places.{feeds_at, feeds, IsStep, GoesOn}
use Rattle.engine_client.specs.declared.step.Step.{Step}
use Rattle.engine_client.specs.declared.step.Step.TheVariants as step
use Rattle.engine_client.specs.Writing.{Prints}
use Rattle.engine_client.specs.Replaying.{Judged}
use Rattle.engine_client.specs.declared.performed.Performed.{Performed}
use Rattle.engine_client.specs.declared.performed.Performed.TheVariants.{On, Ended}

-- it is the first step of a plan
pub record IsFirst (first : Step) : Type 0 where
  pub plan : Plan
  pub is : IsStep first plan

-- a judgement is on a journal whose daemon was opened at a moment that has a text
abbrev pub IsInTime : Step → Type 0
IsInTime (step.Judges upgrade seed moment) = moment ≤ greatest_moment
IsInTime other = ⊤

-- an end as it is told
abbrev pub performed_of : Result ℕ Fault → Result Performed Fault
performed_of (Ok status) = Ok (Ended status)
performed_of (Err fault) = Err fault

-- behind an answer: what is to be done next, by the plan that goes on there; or that fails so, or memory was refused
abbrev pub Follows : Result Performed Fault → Bool → Plan → Type 0
Follows (Ok (On after)) fed plan = GoesOn (Ok after) fed plan
Follows (Ok (Ended status)) fed plan = ⊥
Follows (Err fault) fed plan = GoesOn (Err fault) fed plan

-- a request was answered, whether standard input follows it or not, and the plan that goes on is reached: that is to be done
-- next, and standard input follows what is to follow
pub record GoesTo (input fed : Bool) (plan : Plan) (after : Step) (v v' : SourceView) (o o' : Reach) : Type 0 where
  pub next : Plan
  pub asking : IsAsking next
  pub is : IsStep after next
  pub brings : Brings input plan v v' o next o'
  pub feeds_so : feeds after ≡ fed

-- that, or the plan ended or broke off
abbrev pub AskedSays : Bool → Bool → Plan → Result Performed Fault → SourceView → SourceView → Reach → Reach → Type 0
AskedSays input fed plan (Ok (On after)) v v' o o' = GoesTo input fed plan after v v' o o'
AskedSays input fed plan (Ok (Ended status)) v v' o o' = ⊥
AskedSays input fed plan (Err fault) v v' o o' = DoesAs input plan (Err fault) v v' o o'

-- what a step comes to: a request, a text that is written, or a judgement that is printed
abbrev pub PerformSays : Step → Plan → Result Performed Fault → SourceView → SourceView → Reach → Reach → Type 0
PerformSays (step.Asks ask onward) plan result v v' o o' = AskedSays ask.input (feeds_at onward) plan result v v' o o'
PerformSays (step.Writes text status) plan result v v' o o' =
    (end : Result ℕ Fault) × (result ≡ performed_of end) × Prints plan end o o' × (v' ≡ v)
PerformSays (step.Judges upgrade seed moment) plan result v v' o o' =
    (end : Result ℕ Fault) × (result ≡ performed_of end) × Judged plan end v v' o o'
