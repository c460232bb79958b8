-- What a source and a sink in memory are that a task polls, and what each call of them does. own: they aren't ready where
-- they are told so, and else do what a source and a sink in memory do.
use Rattle.std.specs.Prelude.{ℕ, ◌≡◌, Bool, true, false, min, List, length, take, Contains, Result, Ok, Err}
use Rattle.engine_ports.specs.Rose.{raised}
use Rattle.engine_ports.specs.Memory.{Supply, Store, IsRead, IsWrite, IsProbe, source_of as given, sink_of as taken}
use Rattle.engine_ports.specs.declared.ports.Got.{Got}
use Rattle.engine_ports.specs.declared.ports.Failed.{Failed}
use Rattle.futures.specs.declared.task.Poll.{Poll}
use Rattle.futures.specs.declared.task.Poll.TheVariants.{Ready, Pending}
use Rattle.polled_ports.specs.PollSource.{PollSourceView, gave_after}
use Rattle.polled_ports.specs.PollSink.{PollSinkView}

-- polls of which those with these numbers find nothing ready: how many polls and how many such there were
pub record Polls : Type 0 where
  pub late : List ℕ
  pub polls : ℕ
  pub registered : ℕ

-- a poll finds nothing ready exactly where its number says so
abbrev pub IsPoll : Polls → Bool → Polls → Type 0
IsPoll p true p' =
    Contains p.late p.polls × (p' ≡ record p { polls = raised p.polls; registered = raised p.registered })
IsPoll p false p' = ¬ (Contains p.late p.polls) × (p' ≡ record p { polls = raised p.polls })

-- a source in memory, its polls, and how often it gave bytes
pub record LateSupply : Type 0 where
  pub supply : Supply
  pub polls : Polls
  pub gave : ℕ

-- a sink in memory, the most that it takes at once, its polls, and how often it took bytes
pub record LateStore : Type 0 where
  pub store : Store
  pub most : ℕ
  pub polls : Polls
  pub took : ℕ

-- a polled read: it isn't ready exactly where its number says so, and else reads of the source in memory
abbrev pub IsPollRead : LateSupply → List ℕ → Poll Got → LateSupply → Type 0
IsPollRead s into (Ready got) s' =
    IsPoll s.polls false s'.polls × IsRead s.supply into got s'.supply × (s'.gave ≡ gave_after got s.gave)
IsPollRead s into Pending s' = IsPoll s.polls true s'.polls × (s' ≡ record s { polls = s'.polls })

-- a polled write of a piece: so too, of as much of its front as is taken at once
abbrev pub IsPollWrite : LateStore → List ℕ → Poll (Result ℕ Failed) → LateStore → Type 0
IsPollWrite s piece (Ready (Ok n)) s' =
    IsPoll s.polls false s'.polls × (n ≡ min (length piece) s.most)
    × IsWrite s.store (take n piece) (Ok tt) s'.store × (s'.most ≡ s.most) × (s'.took ≡ raised s.took)
IsPollWrite s piece (Ready (Err x)) s' =
    IsPoll s.polls false s'.polls × IsWrite s.store (take (min (length piece) s.most) piece) (Err x) s'.store
    × (s'.most ≡ s.most) × (s'.took ≡ s.took)
IsPollWrite s piece Pending s' = IsPoll s.polls true s'.polls × (s' ≡ record s { polls = s'.polls })

-- a probe asks the sink in memory
abbrev pub IsLateProbe : LateStore → Result (Unit {0}) Failed → LateStore → Type 0
IsLateProbe s result s' = IsProbe s.store result s'.store × (s' ≡ record s { store = s'.store })

-- what they tell
abbrev pub source_of : LateSupply → PollSourceView
source_of s = record { source = given s.supply; gave = s.gave; registered = s.polls.registered }

abbrev pub sink_of : LateStore → PollSinkView
sink_of s = record { sink = taken s.store; took = s.took; registered = s.polls.registered }
