-- What asking for a ticket's end comes to in a poll (own).
use Rattle.std.specs.Prelude.{ℕ, ◌≡◌, Bool, [], IsTrue, Ok, Err}
use Rattle.engine_ports.specs.Clock.{untold_clock}
use Rattle.engine_ports.specs.declared.ports.Failed.{Failed}
use Rattle.engine_text.specs.declared.call.Call.TheVariants.{Take}
use Rattle.session_model.specs.declared.turned.Turned.{Turned}
use Rattle.session_model.specs.declared.turned.Turned.TheVariants as T
use Rattle.session_model.specs.Pass.{PassView}
use Rattle.exchange_laws.specs.Turns.{TurnComes}
use Rattle.polled_ports.specs.PollSink.{PollSinkView, PollProbeSays}
use Rattle.polled_steps.specs.Turning.{DropsSo, TakesOnce}
use Rattle.polled_steps.specs.declared.turning.Taken.{Taken}
use Rattle.session_model.specs.declared.terms.Terms.{Terms}
use Rattle.polled_steps.specs.Bytes.{rest_of}
use Rattle.polled_steps.specs.declared.outgoing.Outgoing.{Outgoing}
use Rattle.session_poll.specs.declared.state.State.{State}
use Rattle.session_model.specs.Exchange.{flow_of}
use Rattle.session_model.specs.Responses.{out_of_memory_response, stopping_response}
use Rattle.daemon_core.specs.Whole.{IsAnswer}
use Rattle.exchange_laws.specs.Answers.{broken_flow}
use Rattle.polled_steps.specs.Answers.{AnswersReply, IsAnswer as Gives}
use Rattle.session_model.specs.declared.followed.Followed.TheVariants as F
use Rattle.polled_steps.specs.declared.answers.Answer.{Answer}
use Rattle.session_poll.specs.declared.waiting.Over.{Over}
use Rattle.session_poll.specs.declared.waiting.Over.TheVariants as over
use Rattle.session_poll.specs.declared.waiting.Waited.{Waited}
use Rattle.session_poll.specs.declared.waiting.Waited.TheVariants as waited

-- a take came to that, and the ticket was dropped
pub record GivesUp (k handed n : ℕ) (turned : Turned) (p q : PassView) : Type 0 where
  pub mid : PassView
  pub take : TurnComes k handed (Take n) turned p mid untold_clock untold_clock
  pub drop : DropsSo k n mid q

-- it is answered; it was dropped for want of memory; or it was dropped since the daemon stops
abbrev pub OverSays : ℕ → ℕ → ℕ → Bool → Over → PassView → PassView → Type 0
OverSays k handed n stop (over.Replied reply) p q = TakesOnce k handed n (Taken.Replied reply) p q
OverSays k handed n stop over.NoMemory p q = GivesUp k handed n T.NoMemory p q
OverSays k handed n stop over.Stopped p q = GivesUp k handed n T.NotYet p q × IsTrue stop

-- it isn't ready, and the peer is there; it was dropped since the peer is gone; or the wait is over
abbrev pub WaitedSays : ℕ → ℕ → ℕ → Bool → Waited → PassView → PassView → PollSinkView → PollSinkView → Type 0
WaitedSays k handed n stop waited.NotYet p q u u' = TakesOnce k handed n Taken.NotYet p q × PollProbeSays (Ok tt) u u'
WaitedSays k handed n stop waited.Gone p q u u' = GivesUp k handed n T.NotYet p q × ((x : Failed) × PollProbeSays (Err x) u u')
WaitedSays k handed n stop (waited.Over o) p q u u' = OverSays k handed n stop o p q × (u' ≡ u)

-- a reply is a whole answer
abbrev pub IsOverWhole : Over → Type 0
IsOverWhole (over.Replied reply) = IsAnswer reply
IsOverWhole o = Unit {0}

-- its answer
abbrev pub AnswersOver : Terms → Over → Answer → Type 0
AnswersOver terms (over.Replied reply) a = AnswersReply terms reply a
AnswersOver terms over.NoMemory a = Gives a (flow_of terms) (out_of_memory_response terms)
AnswersOver terms over.Stopped a = Gives a (broken_flow F.Stopped) (stopping_response terms)

-- how many calls were made but a drop
abbrev pub calls_by : Over → ℕ
calls_by (over.Replied reply) = 1
calls_by o = 0

-- a session that waits for the ticket of a request with these terms; one whose head comes early; and one of which it is written
abbrev pub IsWaiting : ℕ → Terms → State → Type 0
IsWaiting n terms state = state ≡ State.Waits n terms

abbrev pub IsOpening : ℕ → Terms → State → Type 0
IsOpening n terms state = (out : Outgoing) × (state ≡ State.WaitsEarly n terms out)

abbrev pub HasOpened : ℕ → Terms → State → Type 0
HasOpened n terms state = (out : Outgoing) × (state ≡ State.WaitsEarly n terms out) × (rest_of out ≡ [])
