-- What a sink tells that a task polls. own: that of a sink, and how often it took bytes and how often it wasn't ready.
use Rattle.std.specs.Prelude.{ℕ, ◌≡◌, ◌<◌, ◌≤◌, List, [], length, take, Result, Ok, Err}
use Rattle.engine_ports.specs.Rose.{Rose, raised}
use Rattle.engine_ports.specs.Sink.{SinkView, SinkTook, ProbeSays, FinishSays, untold_sink as untold}
use Rattle.engine_ports.specs.declared.ports.Failed.{Failed}
use Rattle.futures.specs.declared.task.Poll.{Poll}
use Rattle.futures.specs.declared.task.Poll.TheVariants.{Ready, Pending}

-- a sink, how often it took bytes, and how often it wasn't ready, when it registered with the task
pub record PollSinkView : Type 0 where
  pub sink : SinkView
  pub took : ℕ
  pub registered : ℕ

-- a sink that tells no bytes, before its first poll
abbrev pub untold_sink : PollSinkView
untold_sink = record { sink = untold; took = 0; registered = 0 }

-- what a write of some of a piece says: so many bytes of its front, at least one; or none, and a fault
abbrev pub TakesSome : Result ℕ Failed → List ℕ → PollSinkView → PollSinkView → Type 0
TakesSome (Ok n) piece v v' =
    (0 < n) × (n ≤ length piece) × SinkTook v.sink (take n piece) v'.sink × (v'.took ≡ raised v.took)
TakesSome (Err x) piece v v' =
    SinkTook v.sink [] v'.sink × Rose v.sink.faults v'.sink.faults × (v'.took ≡ v.took)

-- what a polled write says: so; or it wasn't ready, took nothing, and registered
abbrev pub PollWriteSays : Poll (Result ℕ Failed) → List ℕ → PollSinkView → PollSinkView → Type 0
PollWriteSays (Ready result) piece v v' = TakesSome result piece v v' × (v'.registered ≡ v.registered)
PollWriteSays Pending piece v v' =
    (v'.sink ≡ v.sink) × (v'.took ≡ v.took) × Rose v.registered v'.registered

-- what a probe and the end of writing say: as of a sink
abbrev pub PollProbeSays : Result (Unit {0}) Failed → PollSinkView → PollSinkView → Type 0
PollProbeSays result v v' =
    ProbeSays result v.sink v'.sink × (v'.took ≡ v.took) × (v'.registered ≡ v.registered)

abbrev pub PollFinishSays : Result (Unit {0}) Failed → PollSinkView → PollSinkView → Type 0
PollFinishSays result v v' =
    FinishSays result v.sink v'.sink × (v'.took ≡ v.took) × (v'.registered ≡ v.registered)
