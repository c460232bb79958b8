-- A line, from its words to its end (own).
use Rattle.std.specs.Prelude.{ℕ, ◌≡◌, ◌⊎◌, List, Result}
use Rattle.engine_ports.specs.Source.{SourceView}
use Rattle.engine_ports.specs.Sink.{SinkView, SinkTook}
use Rattle.engine_ports.specs.Link.{LinkView, but_for}
use Rattle.client_model.specs.Faults.{status_of, fault_line}
use Rattle.client_model.specs.Plans.{Plan}
use Rattle.client_model.specs.Runs.{Outside, WroteLine}
use Rattle.client_model.specs.declared.fault.Fault.{Fault}
use Rattle.client_exchange.specs.Exchanges.{Reach, reach}
use Rattle.client_exchange.specs.Walks.{IsAsking}
use Rattle.client_exchange.specs.Feeding.{FedDoes}
use Rattle.engine_client.specs.Replaying.{Judged}

abbrev pub outside_of : LinkView → SourceView → SinkView → SinkView → Outside
outside_of link input out err = record { link = link; input = input; out = out; err = err }

-- what requests to this address reach of it
abbrev pub reach_of : List ℕ → Outside → Reach
reach_of address o = reach (but_for address o.link) o.out o.err

-- what was done of a plan by requests to this address, before a fault is told; one that asks for a judgement does that alone
abbrev pub Ran : List ℕ → Plan → Result ℕ Fault → Outside → Outside → Type 0
Ran address plan result o o' =
    (IsAsking plan × FedDoes plan result o.input o'.input (reach_of address o) (reach_of address o'))
    ⊎ Judged plan result o.input o'.input (reach_of address o) (reach_of address o')

-- the fault's line was written, or a front of it; and its status is this
pub record Tells (words : List (List ℕ)) (fault : Fault) (status : ℕ) (e e' : SinkView) : Type 0 where
  pub part : List ℕ
  pub took : SinkTook e part e'
  pub line : WroteLine e part (fault_line words fault) e'
  pub status_is : status ≡ status_of fault
