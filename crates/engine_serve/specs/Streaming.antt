-- What is sent of a stream, and how the session goes on behind it (own).
use Rattle.std.specs.Prelude.{ℕ, ◌≡◌, ◌⊎◌, List, [], ◌++◌, None, if◌then◌else◌, IsFalse}
use Rattle.engine_ports.specs.Source.{SourceView}
use Rattle.engine_ports.specs.Sink.{SinkView, SinkTook}
use Rattle.engine_ports.specs.Door.{outside}
use Rattle.engine_text.specs.declared.reply.Reply.{Reply}
use Rattle.engine_text.specs.declared.step.Step.{Step}
use Rattle.machine_model.specs.History.{Charter}
use Rattle.http_edge.specs.Chunks.{IsChunked, last_chunk}
use Rattle.api_routes.specs.declared.class.Takeover.{Takeover}
use Rattle.session_model.specs.declared.followed.Followed.{Followed}
use Rattle.session_model.specs.declared.followed.Followed.TheVariants as F
use Rattle.session_model.specs.declared.terms.Terms.{Terms}
use Rattle.session_model.specs.Responses.{head_of_stream}
use Rattle.session_model.specs.Exchange.{Flow, Leaves, flow_behind, flow_of, IsQuiet, IsBody, EndsSo, is_whole}
use Rattle.session_model.specs.Moments.{ComesTo}
use Rattle.session_model.specs.Session.{Cause, ending_of_ends, is_pumped}
use Rattle.session_model.specs.Progress.{Moves}
use Rattle.attach_hub.specs.Connection.{ConnectionView}
use Rattle.engine_serve.specs.declared.went.Went.{Went}
use Rattle.engine_serve.specs.Serving.{GoesSo, Sends}

-- ---- behind a stream in chunks

-- its last chunk is written exactly where it is whole
abbrev pub EndsStream : Terms → Followed → Went → SinkView → SinkView → Type 0
EndsStream terms F.Whole result u u' = Sends (flow_of terms) result last_chunk u u'
EndsStream terms followed result u u' = (result ≡ Went.Ends (ending_of_ends followed None)) × (u' ≡ u)

-- ---- a stream in chunks

-- its head, of which a write failed; or its head, chunks of its body, and the last chunk exactly where
-- it is whole
abbrev pub IsSentAs : Charter → Terms → Reply → Flow → List ℕ → List Step → List Step → List ℕ → Type 0
IsSentAs ch terms reply flow whole a b ms =
    ((a ≡ b) × (ms ≡ []) × (flow ≡ Leaves F.WriteFault None) × (whole ≡ head_of_stream terms Takeover.None reply))
    ⊎ ((f : Followed) × (body : List ℕ) × (chunks : List ℕ)
    × IsBody ch reply (is_whole f) a b body × EndsSo ch reply f body ms a b × ComesTo reply f ms × IsChunked body chunks
    × (flow ≡ flow_behind terms f)
    × (whole ≡ head_of_stream terms Takeover.None reply ++ chunks ++ (if is_whole f then last_chunk else [])))

-- the stream of a reply was sent, also where a write failed in it, and the connection made no call
pub record SendsStream (terms : Terms) (reply : Reply) (result : Went) (x y : ConnectionView) : Type 0 where
  pub flow : Flow
  pub whole : List ℕ
  pub part : List ℕ
  pub moves : Moves x.who.number x.pass y.pass x.clock y.clock
  pub told : IsSentAs x.pass.charter terms reply flow whole x.pass.seen y.pass.seen moves.handed
  pub goes : GoesSo flow result whole part x.sink y.sink
  pub sink : SinkTook x.sink part y.sink
  pub cause : (s s' : SourceView) → Cause flow (outside s x.sink x.clock) (outside s' y.sink y.clock)
  pub quiet : IsQuiet x.who.number x.pass.seen y.pass.seen
  pub pumped : IsFalse (is_pumped flow)
