-- Where a session stands behind a request that is whole, and behind its call (own).
use Rattle.std.specs.Prelude.{ℕ, ◌≡◌, ◌⊎◌, Bool, true, false}
use Rattle.http_edge.specs.Message.{Request}
use Rattle.api_routes.specs.Class.{class_of}
use Rattle.api_routes.specs.declared.class.Class.TheVariants.{Ask, Direct, Stream}
use Rattle.api_routes.specs.declared.class.DirectAnswer.{DirectAnswer}
use Rattle.api_routes.specs.declared.class.Takeover.{Takeover}
use Rattle.session_model.specs.declared.terms.Terms.{Terms}
use Rattle.session_model.specs.Exchange.{flow_of, is_early}
use Rattle.session_model.specs.Responses.{direct_bytes, early_head, journal_full_response, out_of_memory_response, terms_of}
use Rattle.polled_steps.specs.Answers.{AnswersReply, IsAnswer}
use Rattle.polled_steps.specs.Bytes.{rest_of}
use Rattle.polled_steps.specs.declared.answers.Answer.{Answer}
use Rattle.polled_steps.specs.declared.outgoing.Outgoing.{Outgoing}
use Rattle.polled_steps.specs.declared.turning.Asked.{Asked}
use Rattle.session_poll.specs.declared.state.State.{State}

-- a request is answered by its bytes, or memory was refused for it
abbrev pub AnswersAtOnce : Request → Answer → Type 0
AnswersAtOnce r a =
    ((direct : DirectAnswer) × (class_of r ≡ Direct direct) × IsAnswer a (flow_of (terms_of r)) (direct_bytes (terms_of r) direct))
    ⊎ IsAnswer a (flow_of (terms_of r)) (out_of_memory_response (terms_of r))

-- a request is whole: its call is to be made, or it is answered at once
abbrev pub BeginsBy : Request → State → Type 0
BeginsBy r (State.Asks call terms early) = (class_of r ≡ Ask call) × (terms ≡ terms_of r) × (early ≡ is_early r call)
BeginsBy r (State.Opens call terms) = (class_of r ≡ Stream call Takeover.None) × (terms ≡ terms_of r)
BeginsBy r (State.Sends answer) = AnswersAtOnce r answer
BeginsBy r state = ⊥

-- some request asks for the call that is to be made
abbrev pub IsAsking : State → Type 0
IsAsking (State.Asks call terms early) = (r : Request) × (class_of r ≡ Ask call)
IsAsking state = ⊥

-- it gave a ticket, with the head sent early or not
abbrev pub HoldsBy : ℕ → Terms → Bool → State → Type 0
HoldsBy n terms true state = (out : Outgoing) × (state ≡ State.WaitsEarly n terms out) × (rest_of out ≡ early_head terms)
HoldsBy n terms false state = state ≡ State.Waits n terms

-- where the session stands by what the call came to
abbrev pub GoesBy : Asked → Terms → Bool → State → Type 0
GoesBy (Asked.Replied reply) terms early state = (a : Answer) × (state ≡ State.Sends a) × AnswersReply terms reply a
GoesBy (Asked.Begun n) terms early state = HoldsBy n terms early state
GoesBy Asked.JournalFull terms early state =
    (a : Answer) × (state ≡ State.Sends a) × IsAnswer a (flow_of terms) (journal_full_response terms)
GoesBy Asked.NoMemory terms early state =
    (a : Answer) × (state ≡ State.Sends a) × IsAnswer a (flow_of terms) (out_of_memory_response terms)

-- how many calls were made
abbrev pub calls_of : Asked → ℕ
calls_of (Asked.Replied reply) = 1
calls_of (Asked.Begun n) = 1
calls_of asked = 0
