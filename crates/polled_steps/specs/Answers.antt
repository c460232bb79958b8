-- An answer on its way out, and how its session goes on behind it (own).
use Rattle.std.specs.Prelude.{ℕ, ◌≡◌, ◌⊎◌, List, [], ◌++◌, Some}
use Rattle.engine_text.specs.declared.reply.Reply.{Reply}
use Rattle.engine_text.specs.declared.reply.Reply.TheVariants.{Answer}
use Rattle.http_edge.specs.Chunks.{last_chunk}
use Rattle.api_routes.specs.declared.class.DirectAnswer.{DirectAnswer}
use Rattle.session_model.specs.declared.ending.Ending.{Ending}
use Rattle.session_model.specs.declared.terms.Terms.{Terms}
use Rattle.session_model.specs.Exchange.{Flow, GoesOn, flow_of}
use Rattle.session_model.specs.Responses.{answer_bytes, direct_bytes, out_of_memory_response}
use Rattle.session_model.specs.Session.{ending_of}
use Rattle.exchange_laws.specs.Answers.{one_chunk}
use Rattle.polled_steps.specs.Bytes.{rest_of}
use Rattle.polled_steps.specs.declared.answers.Answer.{Answer as Outgoing}
use Rattle.polled_steps.specs.declared.answers.Behind.{Behind}

-- behind an answer the connection goes on so
abbrev pub GoesBehind : Behind → Flow → Type 0
GoesBehind Behind.Reads flow = flow ≡ GoesOn
GoesBehind (Behind.Ends e) flow = ending_of flow ≡ Some e

-- these bytes are to be written, and behind them the connection goes on so
pub record IsAnswer (a : Outgoing) (flow : Flow) (bytes : List ℕ) : Type 0 where
  pub bytes_are : rest_of a.out ≡ bytes
  pub behind : GoesBehind a.next flow

-- an answer that the request's bytes decide, or that memory was refused for it
abbrev pub AnswersDirect : Terms → DirectAnswer → Outgoing → Type 0
AnswersDirect terms answer a =
    IsAnswer a (flow_of terms) (direct_bytes terms answer) ⊎ IsAnswer a (flow_of terms) (out_of_memory_response terms)

-- a reply is an answer with this status
abbrev pub HasStatus : Reply → ℕ → Type 0
HasStatus (Answer status body) s = s ≡ status
HasStatus reply s = ⊥

-- the answer of a reply
abbrev pub AnswersReply : Terms → Reply → Outgoing → Type 0
AnswersReply terms reply a =
    (status : ℕ) × (body : List ℕ) × (reply ≡ Answer status body) × IsAnswer a (flow_of terms) (answer_bytes terms status body)

-- its body by chunks
abbrev pub AnswersChunk : Terms → Reply → Outgoing → Type 0
AnswersChunk terms reply a =
    (status : ℕ) × (body : List ℕ) × (reply ≡ Answer status body) × IsAnswer a (flow_of terms) (one_chunk body ++ last_chunk)

-- nothing more is written, and the session ends so
pub record IsBroken (a : Outgoing) (e : Ending) : Type 0 where
  pub none : rest_of a.out ≡ []
  pub ends : a.next ≡ Behind.Ends e
