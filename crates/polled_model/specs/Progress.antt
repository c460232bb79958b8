-- How far a session has come that is polled. own: sessions of this project that hold no thread.
use Rattle.std.specs.Prelude.{ℕ, ◌≡◌, Bool, List, [], ◌++◌}
use Rattle.engine_ports.specs.Sink.{IsFront}
use Rattle.engine_ports.specs.Door.{Outside}
use Rattle.engine_text.specs.declared.step.Step.{Step}
use Rattle.machine_model.specs.History.{Charter, own_calls}
use Rattle.http_edge.specs.Message.{Request}
use Rattle.http_edge.specs.Response.{refusal_bytes}
use Rattle.http_edge.specs.Spelling.{Begins, ReadsRequests}
use Rattle.http_edge.specs.Refusal.{AwaitsMore, IsRefused}
use Rattle.session_model.specs.declared.ending.Ending.{Ending}
use Rattle.session_model.specs.Exchange.{Flow, IsAnswered, IsQuiet}
use Rattle.session_model.specs.Session.{AreAnswered, Span, IsSession}

module _ (ch : Charter) (k : ℕ) where
  -- a request is answered in part: with some more calls of its connection alone, some more bytes and some more moments it
  -- is answered by one of the kinds
  pub record IsBegun (r : Request) (behind : List ℕ) (a b : List Step) (w ms : List ℕ) : Type 0 where
    pub more : List Step
    pub rest : List ℕ
    pub later : List ℕ
    pub flow : Flow
    pub own : own_calls k more ≡ more
    pub answered : IsAnswered ch k r behind a (b ++ more) flow (w ++ rest) (ms ++ later)

  -- what is under way of these bytes, which stand behind the answered requests: nothing; one request, answered in
  -- part; or a refusal, written in part
  pub data Underway (tail : List ℕ) (a b : List Step) (w ms : List ℕ) : Type 0 where
    Nothing : w ≡ [] → ms ≡ [] → IsQuiet k a b → Underway tail a b w ms
    One : (r : Request) (behind : List ℕ) (at : List Step) → Begins tail r behind
        → IsBegun r behind a at w ms → IsQuiet k at b → Underway tail a b w ms
    Refusal : (status : ℕ) → IsRefused tail status → IsFront w (refusal_bytes status) → ms ≡ []
        → IsQuiet k a b → Underway tail a b w ms

  -- some first requests are answered, and at most one more is under way
  pub record IsProgress (s : Span) : Type 0 where
    pub done : List Request
    pub tail : List ℕ
    pub mid : List Step
    pub bytes : List ℕ
    pub last : List ℕ
    pub early : List ℕ
    pub late : List ℕ
    pub requests : ReadsRequests s.read done tail
    pub answered : AreAnswered ch k done s.from mid bytes early
    pub underway : Underway tail mid s.to last late
    pub wrote : s.written ≡ bytes ++ last
    pub handed : s.handed ≡ early ++ late

  abbrev pub IsNothing : {tail : List ℕ} {a b : List Step} {w ms : List ℕ} → Underway tail a b w ms → Type 0
  IsNothing (Nothing none unasked quiet) = Unit {0}
  IsNothing other = ⊥

  -- every whole request that was read is answered, and what else was read may become one
  abbrev pub IsIdle : Span → Type 0
  IsIdle s = (x : IsProgress s) × IsNothing x.underway × AwaitsMore x.tail

  -- it has ended so at some history, behind which there are steps of others alone: its last bytes may have waited for the sink
  abbrev pub HasEnded : Ending → Bool → Span → Type 0
  HasEnded e pumps s = (at : List Step) × IsQuiet k at s.to × IsSession ch k e pumps (record s { to = at })

-- ---- laws

-- a session that has read, written and called nothing is on its way, and waits for its source
abbrev pub law_beginnings : Type 0
law_beginnings =
    (ch : Charter) (k : ℕ) (a : List Step) (o : Outside)
    → IsIdle ch k (record { read = []; written = []; handed = []; from = a; to = a; old = o; new = o })

-- steps of others change nothing of how far it has come
abbrev pub law_others : Type 0
law_others =
    (ch : Charter) (k : ℕ) (s : Span) (b : List Step) → IsQuiet k s.to b
    → IsProgress ch k s → IsProgress ch k (record s { to = b })
