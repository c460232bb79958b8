-- Where a session stands that is polled and whose connection was taken over: its input is fed and its stream told in turn. own: sessions
-- of this project that hold no thread.
use Rattle.std.specs.Prelude.{ℕ, ◌≡◌, true, false, List, [], ◌∷◌, ◌++◌, Option, None, Some}
use Rattle.std.specs.List.{concat}
use Rattle.engine_ports.specs.Rose.{Rose}
use Rattle.engine_text.specs.declared.call.Call.{Call}
use Rattle.engine_text.specs.declared.call.Call.TheVariants.{Feed}
use Rattle.engine_text.specs.declared.reply.LogSpec.{LogSpec}
use Rattle.engine_text.specs.declared.reply.Reply.TheVariants.{LogStream, Fed}
use Rattle.engine_text.specs.declared.step.Step.{Step}
use Rattle.machine_model.specs.History.{Charter, input_of}
use Rattle.http_edge.specs.Message.{Request}
use Rattle.http_edge.specs.Spelling.{Begins}
use Rattle.api_routes.specs.Class.{class_of}
use Rattle.api_routes.specs.declared.class.Class.TheVariants.{Stream}
use Rattle.api_routes.specs.declared.class.Takeover.{Takeover}
use Rattle.session_model.specs.declared.ending.Ending.TheVariants as E
use Rattle.session_model.specs.declared.followed.Followed.{Followed}
use Rattle.session_model.specs.declared.followed.Followed.TheVariants as F
use Rattle.session_model.specs.declared.followed.PumpEnd.{PumpEnd}
use Rattle.session_model.specs.declared.followed.PumpEnd.TheVariants as P
use Rattle.session_model.specs.Exchange.{AtLast, EndsSo, Feeds, Flow, IsBody, IsMade, IsMadeAt, IsQuiet, Leaves, Pumps, PumpsOut, is_whole}
use Rattle.session_model.specs.Responses.{takeover_head}
use Rattle.session_model.specs.Session.{Cause, Span, ending_of_ends, is_pumped}
use Rattle.polled_model.specs.Progress.{IsProgress, HasEnded}
use Rattle.polled_model.specs.Stages.{Answered, Reads}
use Rattle.polled_model.specs.Steps.{come_to, wrote_more}

-- what is known of the input of a takeover: it has none; these bytes of it are read and not yet fed; or its pump has ended
pub data Input : Type 0 where
  NoInput : Input
  Open : List ℕ → Input
  Over : PumpEnd → Input

-- how its pump ends, where the session ends now: one that is open, as for want of memory
abbrev pub end_of : Input → Option PumpEnd
end_of NoInput = None
end_of (Open left) = Some P.NoMemory
end_of (Over end) = Some end

-- how the stream ended, or a write of it that failed
abbrev pub followed_or_lost : Option Followed → Followed
followed_or_lost None = F.WriteFault
followed_or_lost (Some f) = f

module _ (ch : Charter) (k : ℕ) where
  -- the input, of the bytes behind the request, from a to b
  abbrev pub InputSays : LogSpec → Input → List ℕ → List Step → List Step → Type 0
  InputSays spec NoInput behind a b = (spec.feed ≡ None) × IsQuiet k a b
  InputSays spec (Open left) behind a b =
      (n : ℕ) × (spec.feed ≡ Some n) × ((pieces : List (List ℕ)) × (fed : List Step) × (behind ≡ concat pieces ++ left)
      × Feeds ch k spec.owner n pieces a fed × IsQuiet k fed b)
  InputSays spec (Over end) behind a b = Pumps ch k spec behind (Some end) a b

  -- the stream, told in part; or ended so, where it is still so or, beside an input, was at some history
  abbrev pub Tells : LogSpec → Input → Option Followed → List Step → List Step → List ℕ → List ℕ → Type 0
  Tells spec input None a b body ms = IsBody ch (LogStream spec) false a b body
  Tells spec input (Some f) a b body ms =
      IsBody ch (LogStream spec) (is_whole f) a b body × AtLast (end_of input) a b (EndsSo ch (LogStream spec) f body ms a)

  -- the call of a request took the connection over; its input is so, its stream told or ended so, and these bytes of it are still to be
  -- written
  pub record Takes (r : Request) (t : Takeover) (spec : LogSpec) (behind : List ℕ) (input : Input) (followed : Option Followed)
      (body rest : List ℕ) (s : Span) : Type 0 where
    pub c : Call
    pub tail : List ℕ
    pub mid : List Step
    pub at : List Step
    pub now : List Step
    pub bytes : List ℕ
    pub sent : List ℕ
    pub early : List ℕ
    pub m : ℕ
    pub late : List ℕ
    pub stands : Answered ch k s.read s.from tail mid bytes early
    pub begins : Begins tail r behind
    pub asks : class_of r ≡ Stream c t
    pub over : t ≡ Takeover.None → ⊥
    pub made : IsMadeAt ch k m c mid at (LogStream spec)
    pub input_is : InputSays spec input behind at now
    pub told : Tells spec input followed at now body late
    pub quiet : IsQuiet k now s.to
    pub whole : takeover_head t ++ body ≡ sent ++ rest
    pub wrote : s.written ≡ bytes ++ sent
    pub handed : s.handed ≡ early ++ m ∷ late

  -- ---- steps

  -- the call of a request takes the connection over, with an input or without
  pub record Takings (r : Request) (t : Takeover) (spec : LogSpec) (behind : List ℕ) (s : Span) : Type 0 where
    pub unfed : (tail : List ℕ) (m : ℕ) (c : Call) (b : List Step) → Reads ch k tail s → Begins tail r behind → class_of r ≡ Stream c t
        → (t ≡ Takeover.None → ⊥) → IsMadeAt ch k m c s.to b (LogStream spec) → IsBody ch (LogStream spec) false b b []
        → spec.feed ≡ None → Takes r t spec behind NoInput None [] (takeover_head t) (come_to s b (m ∷ []))
    pub fed : (tail : List ℕ) (m n : ℕ) (c : Call) (b : List Step) → Reads ch k tail s → Begins tail r behind → class_of r ≡ Stream c t
        → (t ≡ Takeover.None → ⊥) → IsMadeAt ch k m c s.to b (LogStream spec) → IsBody ch (LogStream spec) false b b []
        → spec.feed ≡ Some n → Takes r t spec behind (Open behind) None [] (takeover_head t) (come_to s b (m ∷ []))

  -- more input is read, a piece is fed, the pump ends; the stream is told on, and ends; some bytes are written
  pub record StepsOfTakeovers (r : Request) (t : Takeover) (spec : LogSpec) (behind : List ℕ) (followed : Option Followed)
      (body rest : List ℕ) (s : Span) : Type 0 where
    pub reads_on : (left more : List ℕ) → Takes r t spec behind (Open left) followed body rest s
        → Takes r t spec (behind ++ more) (Open (left ++ more)) followed body rest (record s { read = s.read ++ more })
    pub feeds : (n : ℕ) (piece left : List ℕ) (b : List Step) → Takes r t spec behind (Open (piece ++ left)) followed body rest s
        → spec.feed ≡ Some n → IsMade ch k (input_of k) (Feed spec.owner n piece) s.to b (Fed true)
        → Takes r t spec behind (Open left) followed body rest (record s { to = b })
    pub pump_ends : (n : ℕ) (left : List ℕ) (end : PumpEnd) (b : List Step) → Takes r t spec behind (Open left) followed body rest s
        → spec.feed ≡ Some n → PumpsOut ch k spec.owner n left end s.to b
        → Takes r t spec behind (Over end) followed body rest (record s { to = b })
    pub tells : (input : Input) (part ms : List ℕ) (b : List Step) (x : Takes r t spec behind input None body rest s) → IsQuiet k s.to b
        → IsBody ch (LogStream spec) false x.at b (body ++ part)
        → Takes r t spec behind input None (body ++ part) (rest ++ part) (come_to s b ms)
    pub ends : (input : Input) (f : Followed) (part ms : List ℕ) (b : List Step) (x : Takes r t spec behind input None body rest s)
        → IsQuiet k s.to b → IsBody ch (LogStream spec) (is_whole f) x.at b (body ++ part)
        → EndsSo ch (LogStream spec) f (body ++ part) (x.late ++ ms) x.at b
        → Takes r t spec behind input (Some f) (body ++ part) (rest ++ part) (come_to s b ms)
    pub writes : (input : Input) (part more : List ℕ) → rest ≡ part ++ more → Takes r t spec behind input followed body rest s
        → Takes r t spec behind input followed body more (wrote_more s part)
    pub beside : (input : Input) (b : List Step) → Takes r t spec behind input followed body rest s → IsQuiet k s.to b
        → Takes r t spec behind input followed body rest (record s { to = b })

  -- ---- how it ends, and what it is

  pub record EndsOfTakeovers (r : Request) (t : Takeover) (spec : LogSpec) (behind : List ℕ) (input : Input) (body : List ℕ) (s : Span) : Type 0 where
    pub whole : (f : Followed) → Takes r t spec behind input (Some f) body [] s → Cause (Leaves f (end_of input)) s.old s.new
        → HasEnded ch k (ending_of_ends f (end_of input)) (is_pumped (Leaves f (end_of input))) s
    pub unsent : (followed : Option Followed) (rest : List ℕ) → Takes r t spec behind input followed body rest s
        → Cause (Leaves (followed_or_lost followed) (end_of input)) s.old s.new → Rose s.old.sink.faults s.new.sink.faults
        → HasEnded ch k E.WriteFault (is_pumped (Leaves (followed_or_lost followed) (end_of input))) s
    pub progress : (followed : Option Followed) (rest : List ℕ) → Takes r t spec behind input followed body rest s → IsProgress ch k s

-- ---- laws

pub record TakeoverLaws (ch : Charter) (k : ℕ) (r : Request) (t : Takeover) (spec : LogSpec) (behind body : List ℕ) (s : Span) : Type 0 where
  pub takes : Takings ch k r t spec behind s
  pub steps : (followed : Option Followed) (rest : List ℕ) → StepsOfTakeovers ch k r t spec behind followed body rest s
  pub ends : (input : Input) → EndsOfTakeovers ch k r t spec behind input body s

abbrev pub law_takeovers : Type 0
law_takeovers =
    (ch : Charter) (k : ℕ) (r : Request) (t : Takeover) (spec : LogSpec) (behind body : List ℕ) (s : Span)
    → TakeoverLaws ch k r t spec behind body s
