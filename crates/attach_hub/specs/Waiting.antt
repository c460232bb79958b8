-- How a wait for a ticket ends (own: a ticket is taken once its reply is there, or dropped).
use Rattle.std.specs.Prelude.{ℕ, ◌≡◌, List, [], ◌∷◌, ◌++◌}
use Rattle.engine_ports.specs.Rose.{Rose}
use Rattle.engine_ports.specs.Sink.{SinkView, SinkTook}
use Rattle.engine_ports.specs.Clock.{ClockView}
use Rattle.engine_text.specs.declared.call.Call.TheVariants.{Take, Drop}
use Rattle.engine_text.specs.declared.reply.Reply.{Reply}
use Rattle.engine_text.specs.declared.step.Step.{Step}
use Rattle.machine_model.specs.History.{Charter}
use Rattle.session_model.specs.declared.turned.Awaited.{Awaited}
use Rattle.session_model.specs.declared.turned.Awaited.TheVariants.{Replied, Stopped, WriteFault, NoMemory}
use Rattle.session_model.specs.Exchange.{IsMade, IsMadeAt}
use Rattle.session_model.specs.Progress.{Moves}
use Rattle.daemon_core.specs.Whole.{IsAnswer}
use Rattle.attach_hub.specs.Connection.{ConnectionView}

module _ (ch : Charter) (k n : ℕ) (a b : List Step) where
  -- the connection's one call is the drop of the ticket
  abbrev pub IsDropped : Type 0
  IsDropped = (reply : Reply) × IsMade ch k k (Drop n) a b reply

  -- it is the take, at the last of these moments, answered whole; or a drop, where the clock was stopped, the peer was gone or memory
  -- was refused
  abbrev pub AwaitSays : Awaited → List ℕ → ClockView → ClockView → Type 0
  AwaitSays (Replied reply) ms v v' =
      (others : List ℕ) × (last : ℕ) × (ms ≡ others ++ last ∷ []) × IsMadeAt ch k last (Take n) a b reply × IsAnswer reply
  AwaitSays Stopped ms v v' = IsDropped × Rose v.stops v'.stops
  AwaitSays WriteFault ms v v' = IsDropped
  AwaitSays NoMemory ms v v' = IsDropped

-- it wrote nothing; a peer that was gone is a fault of the sink
abbrev pub AwaitsBy : Awaited → SinkView → SinkView → Type 0
AwaitsBy WriteFault u u' = SinkTook u [] u' × Rose u.faults u'.faults
AwaitsBy awaited u u' = u' ≡ u

-- the connection waited for ticket n
pub record Awaits (n : ℕ) (result : Awaited) (x y : ConnectionView) : Type 0 where
  pub moves : Moves x.who.number x.pass y.pass x.clock y.clock
  pub says : AwaitSays x.pass.charter x.who.number n x.pass.seen y.pass.seen result moves.handed x.clock y.clock
  pub sink : AwaitsBy result x.sink y.sink

-- it gave the ticket up, and asked no clock
pub record Drops (n : ℕ) (x y : ConnectionView) : Type 0 where
  pub made : IsDropped x.pass.charter x.who.number n x.pass.seen y.pass.seen
  pub moves : Moves x.who.number x.pass y.pass x.clock y.clock
  pub same : y ≡ record x { pass = y.pass }
