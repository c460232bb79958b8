-- How a takeover runs behind its head: its stream is followed, while its input, if it is fed, is pumped (Docker Engine API v1.43,
-- ContainerAttach and ExecStart; own: what is written, and how it ends).
use Rattle.std.specs.Prelude.{◌≡◌, List, ℕ, Option, None}
use Rattle.engine_ports.specs.Source.{SourceView}
use Rattle.engine_ports.specs.Sink.{SinkTook}
use Rattle.engine_ports.specs.Door.{outside}
use Rattle.engine_text.specs.declared.reply.LogSpec.{LogSpec}
use Rattle.engine_text.specs.declared.reply.Reply.TheVariants.{LogStream}
use Rattle.http_edge.specs.Reading.{Reached}
use Rattle.session_model.specs.declared.followed.Followed.{Followed}
use Rattle.session_model.specs.declared.followed.PumpEnd.{PumpEnd}
use Rattle.session_model.specs.Exchange.{Leaves, AtLast, IsBody, EndsSo, Pumps, is_whole}
use Rattle.session_model.specs.Progress.{GoesOver}
use Rattle.session_model.specs.Session.{Cause, is_pumped}
use Rattle.attach_hub.specs.Connection.{ConnectionView}
use Rattle.attach_hub.specs.Following.{IsTaken}

-- the stream was followed, and what came behind the request was pumped, if input is fed, and else not read: a body, of which a
-- write failed or not, beside what else the pass and the outside tell
pub record RunsOver (spec : LogSpec) (f : Followed) (end : Option PumpEnd) (x y : ConnectionView) (ahead : List ℕ) (s s' : SourceView) : Type 0 where
  pub body : List ℕ
  pub part : List ℕ
  pub pumps : Reached ahead s s' (λ behind. Pumps x.pass.charter x.who.number spec behind end x.pass.seen y.pass.seen)
  pub unread : end ≡ None → s' ≡ s
  pub tells : IsBody x.pass.charter (LogStream spec) (is_whole f) x.pass.seen y.pass.seen body
  pub goes : GoesOver x.who.number (is_pumped (Leaves f end)) x.pass y.pass x.clock y.clock
  pub ends : AtLast end x.pass.seen y.pass.seen (EndsSo x.pass.charter (LogStream spec) f body goes.handed x.pass.seen)
  pub taken : IsTaken f part body
  pub sink : SinkTook x.sink part y.sink
  pub cause : Cause (Leaves f end) (outside s x.sink x.clock) (outside s' y.sink y.clock)
