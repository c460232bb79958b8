-- Turns with calls that give a stream, each asked for once (own).
use Rattle.std.specs.Prelude.{ℕ, ◌≡◌, List, IsSome, None}
use Rattle.engine_ports.specs.Clock.{untold_clock}
use Rattle.engine_text.specs.declared.call.Call.{Call}
use Rattle.engine_text.specs.declared.reply.Reply.{Reply}
use Rattle.engine_text.specs.declared.step.Step.{Step}
use Rattle.machine_model.specs.History.{Charter}
use Rattle.session_model.specs.declared.turned.Turned.{Turned}
use Rattle.session_model.specs.declared.turned.Turned.TheVariants as T
use Rattle.session_model.specs.Pass.{PassView}
use Rattle.session_model.specs.Responses.{chunked_form}
use Rattle.daemon_core.specs.Whole.{IsAnswer}
use Rattle.attach_hub.specs.Following.{CanFollow}
use Rattle.exchange_laws.specs.Turns.{TurnComes}
use Rattle.polled_steps.specs.declared.opening.Opened.{Opened}

-- what a turn answered
abbrev pub opened_as : Opened → Turned
opened_as (Opened.Streams reply) = T.Replied reply
opened_as (Opened.Replied reply) = T.Replied reply
opened_as Opened.JournalFull = T.JournalFull
opened_as Opened.NoMemory = T.NoMemory

-- a reply gives a stream, or gives none
abbrev pub IsOpenedBy : Reply → Opened → Type 0
IsOpenedBy reply (Opened.Streams given) = (given ≡ reply) × IsSome (chunked_form given)
IsOpenedBy reply (Opened.Replied given) = (given ≡ reply) × (chunked_form given ≡ None)
IsOpenedBy reply opened = ⊥

-- its stream can be told from this history on, or it is a whole answer
abbrev pub IsOpenedSo : Opened → Charter → List Step → Type 0
IsOpenedSo (Opened.Streams reply) ch h = IsSome (chunked_form reply) × CanFollow ch h reply
IsOpenedSo (Opened.Replied reply) ch h = IsAnswer reply
IsOpenedSo opened ch h = Unit {0}

-- a turn with the call of a request for a stream came to that, at the moment that was handed
pub record OpensOnce (k handed : ℕ) (c : Call) (opened : Opened) (p q : PassView) : Type 0 where
  pub comes : TurnComes k handed c (opened_as opened) p q untold_clock untold_clock
  pub so : IsOpenedSo opened p.charter q.seen
