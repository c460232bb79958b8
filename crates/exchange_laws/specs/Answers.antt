-- What a request is answered by, whether its bytes were sent or not. own: the serving of this project.
use Rattle.std.specs.Prelude.{ℕ, ◌≡◌, List, [], ◌∷◌, ◌++◌, None}
use Rattle.engine_ports.specs.Clock.{ClockView}
use Rattle.engine_text.specs.declared.reply.Reply.TheVariants.{Answer}
use Rattle.http_edge.specs.Chunks.{chunk_text, last_chunk}
use Rattle.http_edge.specs.Message.{Request}
use Rattle.session_model.specs.declared.followed.Followed.{Followed}
use Rattle.session_model.specs.declared.followed.Followed.TheVariants as F
use Rattle.session_model.specs.declared.terms.Terms.{Terms}
use Rattle.session_model.specs.declared.turned.Awaited.{Awaited}
use Rattle.session_model.specs.Exchange.{Flow, Leaves, flow_of, IsAnswered}
use Rattle.session_model.specs.Pass.{PassView}
use Rattle.session_model.specs.Progress.{Moves}
use Rattle.session_model.specs.Responses.{answer_bytes, early_head, out_of_memory_response, stopping_response}

-- connection k's request is answered by these bytes, whatever stands behind it, and behind them the connection goes on so
pub record Answers (k : ℕ) (r : Request) (flow : Flow) (whole : List ℕ) (p q : PassView) (v w : ClockView) : Type 0 where
  pub moves : Moves k p q v w
  pub answer : (behind : List ℕ) → IsAnswered p.charter k r behind p.seen q.seen flow whole moves.handed

-- behind what was broken off the session ends
abbrev pub broken_flow : Followed → Flow
broken_flow f = Leaves f None

-- ---- a wait whose head didn't come early

-- how the connection goes on behind it
abbrev pub waited_flow : Terms → Awaited → Flow
waited_flow terms Awaited.Stopped = broken_flow F.Stopped
waited_flow terms awaited = flow_of terms

-- these bytes are its answer: that of its reply, that it was stopped, or else that memory was refused, of which nothing is written
-- to a peer that is gone
abbrev pub IsOfWait : Terms → Awaited → List ℕ → Type 0
IsOfWait terms (Awaited.Replied x) whole =
    (status : ℕ) × (body : List ℕ) × (x ≡ Answer status body) × (whole ≡ answer_bytes terms status body)
IsOfWait terms Awaited.Stopped whole = whole ≡ stopping_response terms
IsOfWait terms awaited whole = whole ≡ out_of_memory_response terms

-- ---- a wait whose head came early

-- a body as one chunk, or as none where it is empty
abbrev pub one_chunk : List ℕ → List ℕ
one_chunk [] = []
one_chunk (b ∷ bytes) = chunk_text (b ∷ bytes)

-- how the connection goes on behind it
abbrev pub early_flow : Terms → Awaited → Flow
early_flow terms (Awaited.Replied x) = flow_of terms
early_flow terms Awaited.Stopped = broken_flow F.Stopped
early_flow terms Awaited.WriteFault = broken_flow F.WriteFault
early_flow terms Awaited.NoMemory = broken_flow F.NoMemory

-- these bytes are its answer: the head, and behind it the body of its reply; or nothing more, where the wait was broken off
abbrev pub IsOfEarlyWait : Terms → Awaited → List ℕ → Type 0
IsOfEarlyWait terms (Awaited.Replied x) whole =
    (status : ℕ) × (body : List ℕ) × (x ≡ Answer status body)
    × (whole ≡ early_head terms ++ (one_chunk body ++ last_chunk))
IsOfEarlyWait terms awaited whole = whole ≡ early_head terms
