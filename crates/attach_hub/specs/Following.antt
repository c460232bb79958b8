-- How following a stream goes on and ends (own: a follower asks for one part after another, and pauses where it is up to date).
use Rattle.std.specs.Prelude.{ℕ, ◌≡◌, ◌≤◌, Bool, true, false, List, [], ◌∷◌, length, IfSome, IsTrue, if◌then◌else◌}
use Rattle.engine_ports.specs.Rose.{Rose}
use Rattle.engine_ports.specs.Sink.{SinkView, SinkTook, IsFront}
use Rattle.engine_ports.specs.Clock.{ClockView}
use Rattle.engine_text.specs.declared.reply.Reply.{Reply}
use Rattle.engine_text.specs.declared.reply.Reply.TheVariants.{EventStream, JournalStream, LogStream}
use Rattle.engine_text.specs.declared.reply.LogSpec.{LogSpec}
use Rattle.engine_text.specs.declared.step.Step.{Step}
use Rattle.machine_model.specs.State.{State}
use Rattle.machine_model.specs.LogStream.{is_kept, log_of, log_reach}
use Rattle.machine_model.specs.History.{Charter, Extends, calls_of, events_of, state_after}
use Rattle.journal_lines.specs.Entries.{history_entries}
use Rattle.http_edge.specs.Chunks.{IsChunked, chunk_text}
use Rattle.session_model.specs.declared.followed.Followed.{Followed}
use Rattle.session_model.specs.declared.followed.Followed.TheVariants as F
use Rattle.session_model.specs.Pass.{PassView}
use Rattle.session_model.specs.Exchange.{IsQuiet, IsBody, EndsSo, is_whole}
use Rattle.session_model.specs.Moments.{ComesTo}
use Rattle.session_model.specs.Progress.{Moves}
use Rattle.attach_hub.specs.Connection.{ConnectionView, view_of}

-- ---- pieces of a body

-- a piece as it is written: as a chunk or as it is; of an empty one nothing
abbrev pub written_of : Bool → List ℕ → List ℕ
written_of true [] = []
written_of true (x ∷ piece) = chunk_text (x ∷ piece)
written_of false piece = piece

-- the pieces of a body, as chunks or as they are
abbrev pub IsSent : Bool → List ℕ → List ℕ → Type 0
IsSent true body bytes = IsChunked body bytes
IsSent false body bytes = bytes ≡ body

-- the sink took all of it, or a front of it where a write failed
abbrev pub IsTaken : Followed → List ℕ → List ℕ → Type 0
IsTaken F.WriteFault part bytes = IsFront part bytes
IsTaken followed part bytes = part ≡ bytes

-- ---- a stream that is followed

-- in this state its log is kept, and it begins within its log and before its end; the run that it feeds isn't 0
pub record MayFollow (s : State) (spec : LogSpec) : Type 0 where
  pub kept : IsTrue (is_kept s spec.owner)
  pub logged : spec.first ≤ length (log_of s spec.owner)
  pub reached : spec.first ≤ log_reach s spec
  pub fed : IfSome spec.feed (λ run. 1 ≤ run)

-- the stream of a reply can be followed from this history on
abbrev pub CanFollow : Charter → List Step → Reply → Type 0
CanFollow ch h (LogStream spec) = MayFollow (state_after ch h) spec
CanFollow ch h (EventStream first until filter) = first ≤ length (events_of ch h)
CanFollow ch h (JournalStream count) = count ≤ length (history_entries ch h)
CanFollow ch h reply = ⊥

-- whether its body is whole, by how it ended; a write that fails may be that of the last piece
abbrev pub IsWholeBy : Followed → Bool → Type 0
IsWholeBy F.WriteFault whole = Unit {0}
IsWholeBy followed whole = whole ≡ is_whole followed

-- what rose outside
abbrev pub HasCause : Followed → SinkView → SinkView → ClockView → ClockView → Type 0
HasCause F.Stopped u u' v v' = Rose v.stops v'.stops
HasCause F.WriteFault u u' v v' = Rose u.faults u'.faults
HasCause followed u u' v v' = Unit {0}

-- the number makes no call from one history to the other
abbrev pub IsStill : ℕ → List Step → List Step → Type 0
IsStill k a b = calls_of k b ≡ calls_of k a

-- the stream of a reply was followed and ended so: the connection made no call, nor was any made for its standard
-- input while that number was its own; and of the body that the stream has between an earlier history and the last one
-- the sink took these pieces
pub record FollowsFrom (base : List Step) (reply : Reply) (chunked : Bool) (result : Followed) (x y : ConnectionView) : Type 0 where
  pub moves : Moves x.who.number x.pass y.pass x.clock y.clock
  pub still : IsStill x.who.number x.pass.seen y.pass.seen
  pub quiet : IsTrue x.pass.pair → IsQuiet x.who.number x.pass.seen y.pass.seen
  pub whole : Bool
  pub by_end : IsWholeBy result whole
  pub body : List ℕ
  pub sent : List ℕ
  pub part : List ℕ
  pub tells : IsBody x.pass.charter reply whole base y.pass.seen body
  pub ends : EndsSo x.pass.charter reply result body moves.handed base y.pass.seen
  pub comes : ComesTo reply (if whole then F.Whole else result) moves.handed
  pub pieces : IsSent chunked body sent
  pub taken : IsTaken result part sent
  pub sink : SinkTook x.sink part y.sink
  pub cause : HasCause result x.sink y.sink x.clock y.clock

-- it was so between the two histories of the pass
abbrev pub Follows : Reply → Bool → Followed → ConnectionView → ConnectionView → Type 0
Follows reply chunked result x y = FollowsFrom x.pass.seen reply chunked result x y

-- it was so, from whichever earlier history on it could be followed
pub record FollowsSince (reply : Reply) (chunked : Bool) (result : Followed) (x y : ConnectionView) : Type 0 where
  pub since : (base : List Step) → Extends base x.pass.seen → CanFollow x.pass.charter base reply → FollowsFrom base reply chunked result x y

-- the stream of a log was followed as it is, by these turns, this sink and this clock, under whatever names they were lent
pub record FollowsLent (k : ℕ) (spec : LogSpec) (result : Followed) (p q : PassView) (u u' : SinkView) (v v' : ClockView) : Type 0 where
  pub since : (lent : ℕ × ℕ × ℕ) → FollowsSince (LogStream spec) false result (view_of k lent p u v) (view_of k lent q u' v')
