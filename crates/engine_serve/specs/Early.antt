-- What is sent of a wait whose head comes before it is over (own).
use Rattle.std.specs.Prelude.{ℕ, ◌≡◌, List, ◌++◌}
use Rattle.engine_ports.specs.Rose.{Rose}
use Rattle.engine_ports.specs.Sink.{SinkView}
use Rattle.engine_text.specs.declared.reply.Reply.{Reply}
use Rattle.engine_text.specs.declared.reply.Reply.TheVariants.{Answer}
use Rattle.http_edge.specs.Chunks.{last_chunk}
use Rattle.attach_hub.specs.Connection.{ConnectionView}
use Rattle.attach_hub.specs.Waiting.{AwaitSays, IsDropped}
use Rattle.session_model.specs.declared.terms.Terms.{Terms}
use Rattle.session_model.specs.declared.followed.Followed.TheVariants as F
use Rattle.session_model.specs.declared.turned.Awaited.{Awaited}
use Rattle.session_model.specs.Exchange.{flow_of}
use Rattle.session_model.specs.Progress.{Moves}
use Rattle.session_model.specs.Responses.{early_head}
use Rattle.exchange_laws.specs.Answers.{broken_flow, one_chunk}
use Rattle.engine_serve.specs.declared.went.Went.{Went}
use Rattle.engine_serve.specs.Serving.{Sends}

-- behind these bytes the body of a reply is sent by chunks, to the last
abbrev pub SendsBody : Terms → List ℕ → Reply → Went → SinkView → SinkView → Type 0
SendsBody terms head reply result u u' =
    (status : ℕ) × (body : List ℕ) × (reply ≡ Answer status body)
    × Sends (flow_of terms) result (head ++ (one_chunk body ++ last_chunk)) u u'

-- behind these bytes what a wait came to is sent: the body of its reply, or nothing where it was broken off
abbrev pub SendsBehind : Terms → List ℕ → Awaited → Went → SinkView → SinkView → Type 0
SendsBehind terms head (Awaited.Replied reply) result u u' = SendsBody terms head reply result u u'
SendsBehind terms head Awaited.Stopped result u u' = Sends (broken_flow F.Stopped) result head u u'
SendsBehind terms head Awaited.WriteFault result u u' = Sends (broken_flow F.WriteFault) result head u u'
SendsBehind terms head Awaited.NoMemory result u u' = Sends (broken_flow F.NoMemory) result head u u'

-- a peer that is gone is a fault of the sink
abbrev pub HasLost : Awaited → SinkView → SinkView → Type 0
HasLost Awaited.WriteFault u u' = Rose u.faults u'.faults
HasLost awaited u u' = Unit {0}

-- the head was sent, and the connection waited for the ticket; or its write failed, and the ticket was dropped
pub data WaitsEarly (n : ℕ) (terms : Terms) (result : Went) (x y : ConnectionView) : Type 0 where
  Waited : (awaited : Awaited) → (moves : Moves x.who.number x.pass y.pass x.clock y.clock)
      → AwaitSays x.pass.charter x.who.number n x.pass.seen y.pass.seen awaited moves.handed x.clock y.clock
      → SendsBehind terms (early_head terms) awaited result x.sink y.sink → HasLost awaited x.sink y.sink → WaitsEarly n terms result x y
  HeadWasLost : IsDropped x.pass.charter x.who.number n x.pass.seen y.pass.seen → Moves x.who.number x.pass y.pass x.clock y.clock
      → Rose x.sink.faults y.sink.faults → Sends (broken_flow F.WriteFault) result (early_head terms) x.sink y.sink
      → WaitsEarly n terms result x y
