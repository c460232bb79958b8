-- Where a session that is polled stands between two of its steps: what each of its states tells of all that it has done.
-- own: sessions of this project that hold no thread.
use Rattle.std.specs.Prelude.{ℕ, ◌≡◌, ◌⊎◌, false, List, [], ◌∷◌, ◌++◌, IsTrue, IsFalse, IsSome}
use Rattle.engine_text.specs.declared.call.Call.{Call}
use Rattle.engine_text.specs.declared.reply.Reply.{Reply}
use Rattle.engine_text.specs.declared.reply.Reply.TheVariants.{Begun}
use Rattle.engine_text.specs.declared.step.Step.{Step}
use Rattle.machine_model.specs.History.{Charter}
use Rattle.http_edge.specs.Message.{Request}
use Rattle.http_edge.specs.Chunks.{IsChunked}
use Rattle.http_edge.specs.Response.{refusal_bytes}
use Rattle.http_edge.specs.Spelling.{Begins, ReadsRequests}
use Rattle.http_edge.specs.Refusal.{IsRefused}
use Rattle.api_routes.specs.Class.{class_of}
use Rattle.api_routes.specs.declared.class.Class.TheVariants.{Ask, Stream}
use Rattle.api_routes.specs.declared.class.Takeover.{Takeover}
use Rattle.session_model.specs.declared.followed.Followed.TheVariants as F
use Rattle.session_model.specs.Exchange.{Flow, IsAnswered, IsBody, IsQuiet, IsMadeAt, is_early}
use Rattle.session_model.specs.Moments.{ComesTo}
use Rattle.session_model.specs.Responses.{terms_of, chunked_form, early_head, head_of_stream}
use Rattle.session_model.specs.Session.{AreAnswered, Span}
use Rattle.polled_model.specs.Places.{TellsUpTo}

module _ (ch : Charter) (k : ℕ) where
  -- of what was read since a beginning of the history some first requests are answered, by these bytes, up to a place of
  -- the history; behind them stands the tail
  pub record Answered (read : List ℕ) (from : List Step) (tail : List ℕ) (mid : List Step) (bytes early : List ℕ) : Type 0 where
    pub done : List Request
    pub requests : ReadsRequests read done tail
    pub answered : AreAnswered ch k done from mid bytes early

  -- reading: nothing is under way
  pub record Reads (tail : List ℕ) (s : Span) : Type 0 where
    pub mid : List Step
    pub stands : Answered s.read s.from tail mid s.written s.handed
    pub quiet : IsQuiet k mid s.to

  -- the call of a request gave a ticket, behind answers of these bytes
  pub record HoldsTicket (n : ℕ) (r : Request) (c : Call) (behind bytes : List ℕ) (s : Span) : Type 0 where
    pub tail : List ℕ
    pub mid : List Step
    pub at : List Step
    pub early : List ℕ
    pub m : ℕ
    pub others : List ℕ
    pub stands : Answered s.read s.from tail mid bytes early
    pub begins : Begins tail r behind
    pub asks : class_of r ≡ Ask c
    pub made : IsMadeAt ch k m c mid at (Begun n)
    pub quiet : IsQuiet k at s.to
    pub handed : s.handed ≡ early ++ m ∷ others

  -- waiting: nothing is written of the answer
  abbrev pub Waits : ℕ → Request → List ℕ → Span → Type 0
  Waits n r behind s = (c : Call) × IsFalse (is_early r c) × HoldsTicket n r c behind s.written s

  -- waiting behind an early head, of which these bytes are still to be written
  pub record WaitsEarly (n : ℕ) (r : Request) (behind rest : List ℕ) (s : Span) : Type 0 where
    pub c : Call
    pub bytes : List ℕ
    pub sent : List ℕ
    pub soon : IsTrue (is_early r c)
    pub ticket : HoldsTicket n r c behind bytes s
    pub head : early_head (terms_of r) ≡ sent ++ rest
    pub wrote : s.written ≡ bytes ++ sent

  -- streaming: this body of a stream is told by now, up to a place, and these bytes of it are still to be written
  pub record Streams (r : Request) (behind : List ℕ) (reply : Reply) (place : ℕ) (body rest : List ℕ) (s : Span) : Type 0 where
    pub c : Call
    pub tail : List ℕ
    pub mid : List Step
    -- where the call stands, and up to where the stream was told
    pub at : List Step
    pub now : List Step
    pub bytes : List ℕ
    pub sent : List ℕ
    pub chunks : List ℕ
    pub early : List ℕ
    pub m : ℕ
    pub late : List ℕ
    pub stands : Answered s.read s.from tail mid bytes early
    pub begins : Begins tail r behind
    pub asks : class_of r ≡ Stream c Takeover.None
    pub form : IsSome (chunked_form reply)
    pub made : IsMadeAt ch k m c mid at reply
    -- nothing was asked of it yet, or what was told is a part of it
    pub told : ((body ≡ []) × (late ≡ [])) ⊎ IsBody ch reply false at now body
    pub reaches : TellsUpTo ch reply at now place body
    -- for the journal no moment was read
    pub comes : ComesTo reply F.WriteFault late
    pub cut : IsChunked body chunks
    pub since : IsQuiet k at now
    pub quiet : IsQuiet k now s.to
    pub whole : head_of_stream (terms_of r) Takeover.None reply ++ chunks ≡ sent ++ rest
    pub wrote : s.written ≡ bytes ++ sent
    pub handed : s.handed ≡ early ++ m ∷ late

  -- sending: a request is answered, and these bytes of its answer are still to be written
  pub record Sends (flow : Flow) (r : Request) (behind rest : List ℕ) (s : Span) : Type 0 where
    pub tail : List ℕ
    pub mid : List Step
    pub at : List Step
    pub bytes : List ℕ
    pub sent : List ℕ
    pub early : List ℕ
    pub late : List ℕ
    pub stands : Answered s.read s.from tail mid bytes early
    pub begins : Begins tail r behind
    -- whatever stands behind it
    pub answer : (more : List ℕ) → IsAnswered ch k r more mid at flow (sent ++ rest) late
    pub quiet : IsQuiet k at s.to
    pub wrote : s.written ≡ bytes ++ sent
    pub handed : s.handed ≡ early ++ late

  -- refusing: these bytes of a refusal are still to be written
  pub record Refuses (status : ℕ) (rest : List ℕ) (s : Span) : Type 0 where
    pub tail : List ℕ
    pub mid : List Step
    pub bytes : List ℕ
    pub sent : List ℕ
    pub stands : Answered s.read s.from tail mid bytes s.handed
    pub refused : IsRefused tail status
    pub whole : refusal_bytes status ≡ sent ++ rest
    pub quiet : IsQuiet k mid s.to
    pub wrote : s.written ≡ bytes ++ sent
