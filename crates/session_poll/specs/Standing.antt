-- Where a session that is polled stands: what its state tells of all that it has done (own).
use Rattle.std.specs.Prelude.{ℕ, ◌≡◌, ◌≤◌, Bool, List, [], ◌++◌, length, false, None, IsFalse, IsTrue}
use Rattle.std.specs.List.{slice_range}
use Rattle.engine_ports.specs.Door.{Outside}
use Rattle.engine_ports.specs.Sink.{SinkTook}
use Rattle.engine_ports.specs.Source.{SourceGave, SourceEnded}
use Rattle.engine_text.specs.declared.step.Step.{Step}
use Rattle.futures.specs.Task.{Hears}
use Rattle.futures.specs.declared.task.context.Context.{Context}
use Rattle.machine_model.specs.History.{Charter}
use Rattle.http_edge.specs.Message.{Request}
use Rattle.http_edge.specs.Spelling.{Begins}
use Rattle.request_pieces.specs.Pushing.{IsFresh}
use Rattle.request_pieces.specs.Standing.{HasTaken}
use Rattle.api_routes.specs.Class.{class_of}
use Rattle.api_routes.specs.declared.class.Class.TheVariants.{Ask, Stream}
use Rattle.api_routes.specs.declared.class.Takeover.{Takeover}
use Rattle.session_model.specs.declared.followed.Followed.TheVariants as F
use Rattle.session_model.specs.Exchange.{Flow, Leaves, IsQuiet, is_early}
use Rattle.session_model.specs.Pass.{PassView}
use Rattle.session_model.specs.Responses.{terms_of}
use Rattle.session_model.specs.Session.{Cause, Span, is_pumped}
use Rattle.polled_model.specs.declared.polled.Cause.{Cause as Pause}
use Rattle.polled_model.specs.declared.polled.Polled.TheVariants.{Pending}
use Rattle.polled_model.specs.Polls.{Told, Ports, Polls, StandsAtPorts}
use Rattle.polled_model.specs.Progress.{IsProgress}
use Rattle.polled_model.specs.Stages as stage
use Rattle.polled_steps.specs.Answers.{GoesBehind}
use Rattle.polled_steps.specs.Bytes.{rest_of}
use Rattle.session_poll.specs.declared.session.Session.{Session}
use Rattle.session_poll.specs.declared.state.State.{State}

-- every source may wake the task
abbrev pub IsWoken : Context → Type 0
IsWoken cx = (n : ℕ) → Hears cx n

-- what was read and isn't taken by the reader
abbrev pub unread : Session → List ℕ
unread x = slice_range x.piece.items x.from x.to

-- the reader reads on, and has taken these bytes since the last request
abbrev pub HasRead : Session → List ℕ → Type 0
HasRead x bytes = (x.reader.stopped ≡ None) × HasTaken x.reader.intake bytes

-- no write failed behind which the connection goes on so
abbrev pub HasNoFault : Flow → Type 0
HasNoFault (Leaves F.WriteFault pumped) = ⊥
HasNoFault flow = Unit {0}

-- an answer is decided, behind which the connection goes on so: no input is pumped, no write failed, and what rose outside is what it says
abbrev pub IsDecided : Flow → Span → Type 0
IsDecided flow s = IsFalse (is_pumped flow) × HasNoFault flow × Cause flow s.old s.new

-- what a session read and wrote is what its source gave and its sink took since it began; where its input is over, its source ended
pub record HasMoved (ended : Bool) (read written : List ℕ) (o o' : Outside) : Type 0 where
  pub ends : IsTrue ended → SourceEnded o.source o'.source
  pub source : SourceGave o.source read o'.source
  pub sink : SinkTook o.sink written o'.sink
  pub stops : o.clock.stops ≤ o'.clock.stops

-- how many bytes are read at once
abbrev pub piece_size : ℕ
piece_size = 4096

-- what isn't taken of a piece stands between these places of it
pub record HasPiece (from to len : ℕ) : Type 0 where
  pub unread : from ≤ to
  pub inside : to ≤ len
  pub size : len ≡ piece_size

module _ (ch : Charter) (k : ℕ) where
  -- what a state tells of all that the session has done
  abbrev pub IsIn : State → Session → Span → Type 0
  IsIn State.Reads x s = (bytes : List ℕ) × HasRead x bytes × stage.Reads ch k (bytes ++ unread x) s
  IsIn (State.Asks call terms early) x s =
      (r : Request) × (tail : List ℕ) × HasRead x [] × stage.Reads ch k tail s × Begins tail r (unread x)
      × (class_of r ≡ Ask call) × (terms ≡ terms_of r) × (early ≡ is_early r call)
  IsIn (State.Waits ticket terms) x s =
      (r : Request) × (terms ≡ terms_of r) × HasRead x [] × stage.Waits ch k ticket r (unread x) s
  IsIn (State.WaitsEarly ticket terms out) x s =
      (r : Request) × (terms ≡ terms_of r) × HasRead x [] × stage.WaitsEarly ch k ticket r (unread x) (rest_of out) s
  IsIn (State.Opens call terms) x s =
      (r : Request) × (tail : List ℕ) × HasRead x [] × stage.Reads ch k tail s × Begins tail r (unread x)
      × (class_of r ≡ Stream call Takeover.None) × (terms ≡ terms_of r)
  IsIn (State.Streams reply terms place out) x s =
      (r : Request) × (body : List ℕ) × (terms ≡ terms_of r) × HasRead x []
      × stage.Streams ch k r (unread x) reply place body (rest_of out) s
  IsIn (State.Sends answer) x s =
      (r : Request) × (flow : Flow) × HasRead x [] × stage.Sends ch k flow r (unread x) (rest_of answer.out) s
      × GoesBehind answer.next flow × IsDecided flow s
  IsIn (State.Refuses out status) x s = stage.Refuses ch k status (rest_of out) s

  -- so it is
  pub record IsAt (x : Session) (s : Span) : Type 0 where
    pub stands : IsIn x.state x s
    pub moved : HasMoved x.ended s.read s.written s.old s.new
    pub piece : HasPiece x.from x.to (length x.piece.items)

  -- it may be polled: it has come so far
  abbrev pub CanPoll : Session → List Step → Ports → Type 0
  CanPoll x seen v = (s : Span) × (s.to ≡ seen) × StandsAtPorts s v × IsAt x s

-- it has done nothing
pub record IsNew (k : ℕ) (x : Session) : Type 0 where
  pub conn : x.conn ≡ k
  pub reader : IsFresh x.reader
  pub from : x.from ≡ 0
  pub to : x.to ≡ 0
  pub ended : x.ended ≡ false
  pub state : x.state ≡ State.Reads
  pub size : length x.piece.items ≡ piece_size

-- ---- laws

-- a session that has done nothing may be polled, wherever the history stands
abbrev pub law_new : Type 0
law_new = (ch : Charter) (k : ℕ) (x : Session) (a : List Step) (v : Ports) → IsNew k x → CanPoll ch k x a v

-- a session is on its way wherever it stands
abbrev pub law_standing : Type 0
law_standing = (ch : Charter) (k : ℕ) (x : Session) (s : Span) → IsAt ch k x s → IsProgress ch k s

-- steps of others between two polls leave it where it stands
abbrev pub law_beside : Type 0
law_beside =
    (ch : Charter) (k : ℕ) (x : Session) (v : Ports) (a b : List Step) → IsQuiet k a b → CanPoll ch k x a v → CanPoll ch k x b v

-- behind a poll that isn't done it may be polled again
abbrev pub law_again : Type 0
law_again =
    (k : ℕ) (told : Told) (pause : Pause) (cx : Context) (x x' : Session) (p q : PassView) (v v' : Ports)
    → Polls k told (Pending pause) (IsAt p.charter k x) (IsAt p.charter k x') (IsWoken cx) p q v v'
    → CanPoll p.charter k x p.seen v → CanPoll p.charter k x' q.seen v'
