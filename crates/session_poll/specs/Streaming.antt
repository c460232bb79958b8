-- Where a session stands that is asked for a stream, and what telling it on comes to in a poll (own).
use Rattle.std.specs.Prelude.{ℕ, ◌≡◌, ◌-◌, Bool, List, [], IsSome, IsTrue, Ok, Err}
use Rattle.engine_ports.specs.declared.ports.Failed.{Failed}
use Rattle.engine_text.specs.declared.reply.Reply.{Reply}
use Rattle.engine_text.specs.declared.step.Step.{Step}
use Rattle.http_edge.specs.Message.{Request}
use Rattle.machine_model.specs.History.{Charter}
use Rattle.api_routes.specs.Class.{class_of}
use Rattle.api_routes.specs.declared.class.Class.TheVariants.{Stream}
use Rattle.api_routes.specs.declared.class.Takeover.{Takeover}
use Rattle.session_model.specs.declared.ending.Ending.{Ending}
use Rattle.session_model.specs.declared.ending.Ending.TheVariants as E
use Rattle.session_model.specs.declared.terms.Terms.{Terms}
use Rattle.session_model.specs.Exchange.{flow_of}
use Rattle.session_model.specs.Pass.{PassView}
use Rattle.session_model.specs.Responses.{chunked_form, head_of_stream, journal_full_response, out_of_memory_response}
use Rattle.daemon_core.specs.Whole.{IsAnswer}
use Rattle.attach_hub.specs.Streams.{StandsIn}
use Rattle.polled_ports.specs.PollSink.{PollSinkView, PollProbeSays}
use Rattle.polled_steps.specs.Answers.{AnswersReply, IsAnswer as Gives}
use Rattle.polled_steps.specs.Bytes.{rest_of}
use Rattle.polled_steps.specs.Telling.{TellsOnce}
use Rattle.polled_steps.specs.declared.answers.Answer.{Answer}
use Rattle.polled_steps.specs.declared.opening.Opened.{Opened}
use Rattle.polled_steps.specs.declared.outgoing.Outgoing.{Outgoing}
use Rattle.polled_steps.specs.declared.telling.Told.{Told}
use Rattle.polled_model.specs.Places.{first_place}
use Rattle.session_poll.specs.declared.budget.Budget.{Budget}
use Rattle.session_poll.specs.declared.state.State.{State}
use Rattle.session_poll.specs.declared.streaming.Telling.{Telling}
use Rattle.session_poll.specs.declared.streaming.Telling.TheVariants as telling

-- ---- the call

-- some request asks for the stream whose call is to be made
abbrev pub IsOpening : State → Type 0
IsOpening (State.Opens call terms) = (r : Request) × (class_of r ≡ Stream call Takeover.None)
IsOpening state = ⊥

-- a reply that gives no stream is a whole answer
abbrev pub IsOpenedWhole : Opened → Type 0
IsOpenedWhole (Opened.Replied reply) = IsAnswer reply
IsOpenedWhole opened = Unit {0}

-- its stream stands at its first place, with its head to be written
abbrev pub StandsFirst : Reply → Terms → State → Type 0
StandsFirst reply terms state =
    (out : Outgoing) × (state ≡ State.Streams reply terms (first_place reply) out) × (rest_of out ≡ head_of_stream terms Takeover.None reply)

-- where the session stands by what the call came to
abbrev pub OpensBy : Opened → Terms → State → Type 0
OpensBy (Opened.Streams reply) terms state = StandsFirst reply terms state
OpensBy (Opened.Replied reply) terms state = (a : Answer) × (state ≡ State.Sends a) × AnswersReply terms reply a
OpensBy Opened.JournalFull terms state = (a : Answer) × (state ≡ State.Sends a) × Gives a (flow_of terms) (journal_full_response terms)
OpensBy Opened.NoMemory terms state = (a : Answer) × (state ≡ State.Sends a) × Gives a (flow_of terms) (out_of_memory_response terms)

-- what is left of a poll behind the call: of a stream that it began as many parts as calls
abbrev pub left_behind : Budget → Opened → Budget
left_behind b (Opened.Streams reply) = record b { turns = b.turns - 1; parts = b.turns - 1 }
left_behind b (Opened.Replied reply) = record b { turns = b.turns - 1 }
left_behind b opened = b

-- ---- the stream

-- a part of it may be asked for
abbrev pub MayTell : Charter → List Step → State → Type 0
MayTell ch h (State.Streams reply terms place out) = IsSome (chunked_form reply) × StandsIn ch h reply place
MayTell ch h state = ⊥

-- all that is told of it is written
abbrev pub IsWritten : State → Type 0
IsWritten (State.Streams reply terms place out) = rest_of out ≡ []
IsWritten state = ⊥

-- why it ends now: all was told, and the daemon stops or the peer is gone; what comes next isn't kept any more; or memory was refused
abbrev pub EndsTelling : ℕ → ℕ → Bool → Reply → ℕ → Ending → PassView → PassView → PollSinkView → PollSinkView → Type 0
EndsTelling k handed stop reply place E.Stopped p q u u' = TellsOnce k handed reply place Told.UpToDate p q × IsTrue stop × (u' ≡ u)
EndsTelling k handed stop reply place E.WriteFault p q u u' =
    TellsOnce k handed reply place Told.UpToDate p q × ((x : Failed) × PollProbeSays (Err x) u u')
EndsTelling k handed stop reply place (E.Lagged next first) p q u u' = TellsOnce k handed reply place (Told.Gone next first) p q × (u' ≡ u)
EndsTelling k handed stop reply place E.NoMemory p q u u' = TellsOnce k handed reply place Told.NoMemory p q × (u' ≡ u)
EndsTelling k handed stop reply place e p q u u' = ⊥

-- what telling it on came to
abbrev pub TellingSays : ℕ → ℕ → Bool → Reply → ℕ → Telling → PassView → PassView → PollSinkView → PollSinkView → Type 0
TellingSays k handed stop reply place (telling.More next bytes) p q u u' = TellsOnce k handed reply place (Told.More next bytes) p q × (u' ≡ u)
TellingSays k handed stop reply place (telling.Whole bytes) p q u u' = TellsOnce k handed reply place (Told.Whole bytes) p q × (u' ≡ u)
TellingSays k handed stop reply place telling.UpToDate p q u u' = TellsOnce k handed reply place Told.UpToDate p q × PollProbeSays (Ok tt) u u'
TellingSays k handed stop reply place (telling.Ends e) p q u u' = EndsTelling k handed stop reply place e p q u u'
