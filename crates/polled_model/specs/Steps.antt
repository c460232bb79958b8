-- How a session that is polled goes from one of its states to the next, how it ends, and what each state is.
-- own: sessions of this project that hold no thread.
use Rattle.std.specs.Prelude.{ℕ, ◌≡◌, ◌≤◌, true, false, if◌then◌else◌, List, [], ◌∷◌, ◌++◌, length, None, Some, IsFalse, IsTrue, IsSome}
use Rattle.engine_ports.specs.Rose.{Rose}
use Rattle.engine_ports.specs.Source.{SourceEnded}
use Rattle.engine_text.specs.declared.call.Call.{Call}
use Rattle.engine_text.specs.declared.call.Call.TheVariants.{Take, Drop}
use Rattle.engine_text.specs.declared.reply.Reply.{Reply}
use Rattle.engine_text.specs.declared.reply.Reply.TheVariants.{Answer, Begun}
use Rattle.engine_text.specs.declared.step.Step.{Step}
use Rattle.machine_model.specs.History.{Charter, state_after}
use Rattle.journal_lines.specs.Room.{HasRoom}
use Rattle.http_edge.specs.Message.{Request}
use Rattle.http_edge.specs.Chunks.{IsChunked, last_chunk}
use Rattle.http_edge.specs.Response.{refusal_bytes}
use Rattle.http_edge.specs.Spelling.{Begins}
use Rattle.http_edge.specs.Refusal.{AwaitsMore, IsRefused, IsUnfinished}
use Rattle.api_routes.specs.Class.{class_of}
use Rattle.api_routes.specs.declared.class.Class.TheVariants.{Direct, Ask, Stream}
use Rattle.api_routes.specs.declared.class.DirectAnswer.{DirectAnswer}
use Rattle.api_routes.specs.declared.class.Takeover.{Takeover}
use Rattle.session_model.specs.declared.ending.Ending.{Ending}
use Rattle.session_model.specs.declared.ending.Ending.TheVariants as E
use Rattle.session_model.specs.declared.followed.Followed.{Followed}
use Rattle.session_model.specs.declared.followed.Followed.TheVariants as F
use Rattle.session_model.specs.Exchange.{Flow, GoesOn, Leaves, flow_of, flow_behind, call_of, is_early, is_whole, BreaksWait, EndsSo, IsBody, IsMade, IsMadeAt, IsQuiet}
use Rattle.session_model.specs.Moments.{ComesTo}
use Rattle.session_model.specs.Responses.{terms_of, direct_bytes, answer_bytes, chunked_form, early_head, head_of_stream, journal_full_response, out_of_memory_response, stopping_response}
use Rattle.session_model.specs.Session.{Cause, Span, ending_of, is_pumped}
use Rattle.polled_model.specs.Progress.{IsProgress, HasEnded}
use Rattle.polled_model.specs.Places.{TellsUpTo, first_place}
use Rattle.polled_model.specs.Stages.{Reads, Waits, WaitsEarly, Streams, Sends, Refuses}

-- a span that has come to a history, at these moments more
abbrev pub come_to : Span → List Step → List ℕ → Span
come_to s b ms = record s { to = b; handed = s.handed ++ ms }

-- a span of which these bytes more are written
abbrev pub wrote_more : Span → List ℕ → Span
wrote_more s part = record s { written = s.written ++ part }

module _ (ch : Charter) (k : ℕ) where
  -- steps of others leave each state as it is
  pub record StaysBeside (s : Span) (b : List Step) : Type 0 where
    pub reads : (tail : List ℕ) → Reads ch k tail s → Reads ch k tail (record s { to = b })
    pub waits : (n : ℕ) (r : Request) (behind : List ℕ) → Waits ch k n r behind s → Waits ch k n r behind (record s { to = b })
    pub early : (n : ℕ) (r : Request) (behind rest : List ℕ)
        → WaitsEarly ch k n r behind rest s → WaitsEarly ch k n r behind rest (record s { to = b })
    pub streams : (r : Request) (behind : List ℕ) (reply : Reply) (place : ℕ) (body rest : List ℕ)
        → Streams ch k r behind reply place body rest s → Streams ch k r behind reply place body rest (record s { to = b })
    pub sends : (flow : Flow) (r : Request) (behind rest : List ℕ)
        → Sends ch k flow r behind rest s → Sends ch k flow r behind rest (record s { to = b })
    pub refuses : (status : ℕ) (rest : List ℕ) → Refuses ch k status rest s → Refuses ch k status rest (record s { to = b })

  -- reading goes on, or a request is answered by its bytes, by its call or by what it lacks, up to a history b
  pub record StepsOfReads (tail : List ℕ) (s : Span) : Type 0 where
    pub reads_on : (more : List ℕ) → Reads ch k tail s → Reads ch k (tail ++ more) (record s { read = s.read ++ more })
    pub direct : (behind : List ℕ) (r : Request) (answer : DirectAnswer) → Reads ch k tail s → Begins tail r behind
        → class_of r ≡ Direct answer → Sends ch k (flow_of (terms_of r)) r behind (direct_bytes (terms_of r) answer) s
    pub short : (behind ms : List ℕ) (r : Request) (b : List Step) → Reads ch k tail s → Begins tail r behind
        → IsQuiet k s.to b → (call_of (class_of r) ≡ None → ms ≡ []) → length ms ≤ 1
        → Sends ch k (flow_of (terms_of r)) r behind (out_of_memory_response (terms_of r)) (come_to s b ms)
    pub full : (behind : List ℕ) (m : ℕ) (r : Request) (c : Call) (b : List Step) → Reads ch k tail s → Begins tail r behind
        → call_of (class_of r) ≡ Some c → IsQuiet k s.to b → (HasRoom ch (state_after ch b) c → ⊥)
        → Sends ch k (flow_of (terms_of r)) r behind (journal_full_response (terms_of r)) (come_to s b (m ∷ []))
    pub called : (behind : List ℕ) (m : ℕ) (r : Request) (c : Call) (status : ℕ) (body : List ℕ) (b : List Step)
        → Reads ch k tail s → Begins tail r behind → call_of (class_of r) ≡ Some c → IsMadeAt ch k m c s.to b (Answer status body)
        → Sends ch k (flow_of (terms_of r)) r behind (answer_bytes (terms_of r) status body) (come_to s b (m ∷ []))
    pub begun : (behind : List ℕ) (m : ℕ) (r : Request) (c : Call) (n : ℕ) (b : List Step) → Reads ch k tail s
        → Begins tail r behind → class_of r ≡ Ask c → IsFalse (is_early r c) → IsMadeAt ch k m c s.to b (Begun n)
        → Waits ch k n r behind (come_to s b (m ∷ []))
    pub begun_early : (behind : List ℕ) (m : ℕ) (r : Request) (c : Call) (n : ℕ) (b : List Step) → Reads ch k tail s
        → Begins tail r behind → class_of r ≡ Ask c → IsTrue (is_early r c) → IsMadeAt ch k m c s.to b (Begun n)
        → WaitsEarly ch k n r behind (early_head (terms_of r)) (come_to s b (m ∷ []))
    pub streamed : (behind : List ℕ) (m : ℕ) (r : Request) (c : Call) (reply : Reply) (b : List Step) → Reads ch k tail s
        → Begins tail r behind → class_of r ≡ Stream c Takeover.None → IsSome (chunked_form reply)
        → IsMadeAt ch k m c s.to b reply → TellsUpTo ch reply b b (first_place reply) []
        → Streams ch k r behind reply (first_place reply) [] (head_of_stream (terms_of r) Takeover.None reply) (come_to s b (m ∷ []))
    pub refused : (status : ℕ) → Reads ch k tail s → IsRefused tail status → Refuses ch k status (refusal_bytes status) s

  -- a wait goes on, is over, or is given up: at a stop, for want of memory, or since the peer is gone
  pub record StepsOfWaits (n : ℕ) (r : Request) (behind : List ℕ) (s : Span) : Type 0 where
    pub waits_on : (ms : List ℕ) (b : List Step) → Waits ch k n r behind s → IsQuiet k s.to b → Waits ch k n r behind (come_to s b ms)
    pub taken : (m status : ℕ) (body : List ℕ) (b : List Step) → Waits ch k n r behind s
        → IsMadeAt ch k m (Take n) s.to b (Answer status body)
        → Sends ch k (flow_of (terms_of r)) r behind (answer_bytes (terms_of r) status body) (come_to s b (m ∷ []))
    pub stopped : (x : Reply) (b : List Step) → Waits ch k n r behind s → IsMade ch k k (Drop n) s.to b x
        → Sends ch k (Leaves F.Stopped None) r behind (stopping_response (terms_of r)) (record s { to = b })
    pub given_up : (x : Reply) (b : List Step) → Waits ch k n r behind s → IsMade ch k k (Drop n) s.to b x
        → Sends ch k (flow_of (terms_of r)) r behind (out_of_memory_response (terms_of r)) (record s { to = b })

  -- the same of a wait whose head came early
  pub record StepsOfEarlyWaits (n : ℕ) (r : Request) (behind rest : List ℕ) (s : Span) : Type 0 where
    pub waits_on : (ms : List ℕ) (b : List Step) → WaitsEarly ch k n r behind rest s → IsQuiet k s.to b
        → WaitsEarly ch k n r behind rest (come_to s b ms)
    pub taken : (m : ℕ) (body chunks : List ℕ) (b : List Step) → WaitsEarly ch k n r behind rest s
        → IsMadeAt ch k m (Take n) s.to b (Answer 200 body) → IsChunked body chunks
        → Sends ch k (flow_behind (terms_of r) F.Whole) r behind (rest ++ chunks ++ last_chunk) (come_to s b (m ∷ []))
    pub broken : (f : Followed) (x : Reply) (b : List Step) → WaitsEarly ch k n r behind rest s → BreaksWait f
        → IsMade ch k k (Drop n) s.to b x → Sends ch k (Leaves f None) r behind rest (record s { to = b })

  -- a stream is told on, up to date too, or ends by what it is then
  pub record StepsOfStreams (r : Request) (behind : List ℕ) (reply : Reply) (place : ℕ) (body rest : List ℕ) (s : Span) : Type 0 where
    pub tells : (next : ℕ) (part chunks ms : List ℕ) (b : List Step) (x : Streams ch k r behind reply place body rest s) → IsQuiet k s.to b
        → IsBody ch reply false x.at b (body ++ part) → TellsUpTo ch reply x.at b next (body ++ part)
        → ComesTo reply F.WriteFault (x.late ++ ms) → IsChunked part chunks
        → Streams ch k r behind reply next (body ++ part) (rest ++ chunks) (come_to s b ms)
    pub ends : (f : Followed) (part chunks ms : List ℕ) (b : List Step) (x : Streams ch k r behind reply place body rest s)
        → IsQuiet k s.to b → IsBody ch reply (is_whole f) x.at b (body ++ part) → EndsSo ch reply f (body ++ part) (x.late ++ ms) x.at b
        → ComesTo reply f (x.late ++ ms) → IsChunked part chunks
        → Sends ch k (flow_behind (terms_of r) f) r behind (rest ++ chunks ++ (if is_whole f then last_chunk else [])) (come_to s b ms)

  -- some bytes are written; behind all of an answer the next request is read
  pub record StepsOfWrites (part rest : List ℕ) (s : Span) : Type 0 where
    pub early : (n : ℕ) (r : Request) (behind : List ℕ) → WaitsEarly ch k n r behind (part ++ rest) s
        → WaitsEarly ch k n r behind rest (wrote_more s part)
    pub streams : (r : Request) (behind : List ℕ) (reply : Reply) (place : ℕ) (body : List ℕ) → Streams ch k r behind reply place body (part ++ rest) s
        → Streams ch k r behind reply place body rest (wrote_more s part)
    pub sends : (flow : Flow) (r : Request) (behind : List ℕ) → Sends ch k flow r behind (part ++ rest) s
        → Sends ch k flow r behind rest (wrote_more s part)
    pub refuses : (status : ℕ) → Refuses ch k status (part ++ rest) s → Refuses ch k status rest (wrote_more s part)
    pub goes_on : (r : Request) (behind : List ℕ) → Sends ch k GoesOn r behind [] s → Reads ch k behind s

  -- ---- how it ends, each ending by what rose outside since it began

  pub record Endings (s : Span) : Type 0 where
    -- between two requests, inside one, or as a read failed
    pub closed : Reads ch k [] s → SourceEnded s.old.source s.new.source → HasEnded ch k E.Closed false s
    pub cut : (tail : List ℕ) → Reads ch k tail s → IsUnfinished tail → SourceEnded s.old.source s.new.source
        → HasEnded ch k E.CutShort false s
    pub unread : (tail : List ℕ) → Reads ch k tail s → AwaitsMore tail → Rose s.old.source.faults s.new.source.faults
        → HasEnded ch k E.ReadFault false s
    -- behind the whole of a last answer, and of a refusal
    pub behind : (flow : Flow) (e : Ending) (r : Request) (behind : List ℕ) → Sends ch k flow r behind [] s
        → ending_of flow ≡ Some e → Cause flow s.old s.new → HasEnded ch k e (is_pumped flow) s
    pub refused : (status : ℕ) → Refuses ch k status [] s → HasEnded ch k (E.Refused status) false s
    -- as a write failed, or the peer was gone
    pub unsent : (flow : Flow) (r : Request) (behind rest : List ℕ) → Sends ch k flow r behind rest s
        → Cause flow s.old s.new → Rose s.old.sink.faults s.new.sink.faults → HasEnded ch k E.WriteFault (is_pumped flow) s
    pub untold : (r : Request) (behind : List ℕ) (reply : Reply) (place : ℕ) (body rest : List ℕ) → Streams ch k r behind reply place body rest s
        → Rose s.old.sink.faults s.new.sink.faults → HasEnded ch k E.WriteFault false s
    pub unrefused : (status : ℕ) (rest : List ℕ) → Refuses ch k status rest s
        → Rose s.old.sink.faults s.new.sink.faults → HasEnded ch k E.WriteFault false s

-- ---- laws

pub record StageLaws (ch : Charter) (k : ℕ) (s : Span) : Type 0 where
  pub beside : (b : List Step) → IsQuiet k s.to b → StaysBeside ch k s b
  pub reads : (tail : List ℕ) → StepsOfReads ch k tail s
  pub waits : (n : ℕ) (r : Request) (behind : List ℕ) → StepsOfWaits ch k n r behind s
  pub early : (n : ℕ) (r : Request) (behind rest : List ℕ) → StepsOfEarlyWaits ch k n r behind rest s
  pub streams : (r : Request) (behind : List ℕ) (reply : Reply) (place : ℕ) (body rest : List ℕ) → StepsOfStreams ch k r behind reply place body rest s
  pub writes : (part rest : List ℕ) → StepsOfWrites ch k part rest s
  pub endings : Endings ch k s

-- each state is a session on its way
pub record ProgressLaws (ch : Charter) (k : ℕ) (s : Span) : Type 0 where
  pub reads : (tail : List ℕ) → Reads ch k tail s → IsProgress ch k s
  pub waits : (n : ℕ) (r : Request) (behind : List ℕ) → Waits ch k n r behind s → IsProgress ch k s
  pub early : (n : ℕ) (r : Request) (behind rest : List ℕ) → WaitsEarly ch k n r behind rest s → IsProgress ch k s
  pub streams : (r : Request) (behind : List ℕ) (reply : Reply) (place : ℕ) (body rest : List ℕ) → Streams ch k r behind reply place body rest s → IsProgress ch k s
  pub sends : (flow : Flow) (r : Request) (behind rest : List ℕ) → Sends ch k flow r behind rest s → IsProgress ch k s
  pub refuses : (status : ℕ) (rest : List ℕ) → Refuses ch k status rest s → IsProgress ch k s

abbrev pub law_stages : Type 0
law_stages = (ch : Charter) (k : ℕ) (s : Span) → StageLaws ch k s

abbrev pub law_progress : Type 0
law_progress = (ch : Charter) (k : ℕ) (s : Span) → ProgressLaws ch k s
