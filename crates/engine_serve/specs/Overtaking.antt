-- A connection that is taken over by a log's stream (Docker Engine API v1.43, ContainerAttach and ExecStart; own: what is written, and
-- how the session ends).
use Rattle.std.specs.Prelude.{ℕ, ◌≡◌, ◌⊎◌, Bool, List, [], ◌∷◌, ◌++◌, Option, None}
use Rattle.engine_ports.specs.Door.{outside}
use Rattle.engine_ports.specs.Sink.{SinkTook}
use Rattle.engine_ports.specs.Source.{SourceView}
use Rattle.engine_text.specs.declared.call.Call.{Call}
use Rattle.engine_text.specs.declared.reply.LogSpec.{LogSpec}
use Rattle.engine_text.specs.declared.reply.Reply.TheVariants.{LogStream}
use Rattle.engine_text.specs.declared.step.Step.{Step}
use Rattle.machine_model.specs.History.{Charter, state_after}
use Rattle.http_edge.specs.Message.{Request}
use Rattle.http_edge.specs.Reading.{Reached}
use Rattle.api_routes.specs.Class.{class_of}
use Rattle.api_routes.specs.RouteClass.{takeover}
use Rattle.api_routes.specs.declared.class.Class.TheVariants.{Stream}
use Rattle.session_model.specs.declared.ending.Ending.{Ending}
use Rattle.session_model.specs.declared.followed.Followed.{Followed}
use Rattle.session_model.specs.declared.followed.Followed.TheVariants as F
use Rattle.session_model.specs.declared.followed.PumpEnd.{PumpEnd}
use Rattle.session_model.specs.Exchange.{Flow, Leaves, AtLast, IsBody, IsMadeAt, EndsSo, Pumps, is_whole}
use Rattle.session_model.specs.Progress.{Moves, GoesOver}
use Rattle.session_model.specs.Responses.{takeover_head}
use Rattle.session_model.specs.Session.{Cause, IsWritten, is_pumped}
use Rattle.attach_hub.specs.Connection.{ConnectionView}
use Rattle.attach_hub.specs.Following.{MayFollow}
use Rattle.engine_serve.specs.declared.went.Tried.{Tried}
use Rattle.engine_serve.specs.Serving.{Tries}

-- ---- a takeover begins

-- the request's call was made, and gave the stream that its connection is taken over for
pub record OpensOver (r : Request) (upgrade : Bool) (spec : LogSpec) (x y : ConnectionView) : Type 0 where
  pub call : Call
  pub class : class_of r ≡ Stream call (takeover upgrade)
  pub handed : ℕ
  pub made : IsMadeAt x.pass.charter x.who.number handed call x.pass.seen y.pass.seen (LogStream spec)
  pub may : MayFollow (state_after y.pass.charter y.pass.seen) spec
  pub moves : Moves x.who.number x.pass y.pass x.clock y.clock
  pub one : moves.handed ≡ handed ∷ []

-- a request was answered; or a takeover begins, of which nothing is written yet
abbrev pub TriesSo : Request → Tried → ConnectionView → ConnectionView → Type 0
TriesSo r (Tried.Answered went) x y = Tries r went x y
TriesSo r (Tried.Over upgrade spec) x y = OpensOver r upgrade spec x y × (y.sink ≡ x.sink)

-- ---- a connection is taken over

-- of the bytes behind the request: the head, of which a write failed; or the head and a body that was followed, while the
-- bytes were pumped, where input is fed
abbrev pub IsTakenSo : Charter → ℕ → Bool → LogSpec → Flow → List ℕ → List Step → List Step → List ℕ → List ℕ → Type 0
IsTakenSo ch k upgrade spec flow whole a b ms behind =
    ((a ≡ b) × (ms ≡ []) × (flow ≡ Leaves F.WriteFault None) × (whole ≡ takeover_head (takeover upgrade)))
    ⊎ ((f : Followed) × (end : Option PumpEnd) × (body : List ℕ) × Pumps ch k spec behind end a b
    × IsBody ch (LogStream spec) (is_whole f) a b body × AtLast end a b (EndsSo ch (LogStream spec) f body ms a)
    × (flow ≡ Leaves f end) × (whole ≡ takeover_head (takeover upgrade) ++ body))

-- the connection was taken over with these bytes read ahead, and the session ends so
pub record Overtakes (upgrade : Bool) (spec : LogSpec) (e : Ending) (x y : ConnectionView) (ahead : List ℕ) (s s' : SourceView) : Type 0 where
  pub flow : Flow
  pub whole : List ℕ
  pub part : List ℕ
  pub written : IsWritten e flow whole part x.sink y.sink
  pub sink : SinkTook x.sink part y.sink
  pub cause : Cause flow (outside s x.sink x.clock) (outside s' y.sink y.clock)
  pub goes : GoesOver x.who.number (is_pumped flow) x.pass y.pass x.clock y.clock
  pub told : Reached ahead s s' (IsTakenSo x.pass.charter x.who.number upgrade spec flow whole x.pass.seen y.pass.seen goes.handed)
