-- What a turn with a call came to, whoever else took turns. own: turns of this project.
use Rattle.std.specs.Prelude.{ℕ, ◌≡◌, List, [], ◌∷◌}
use Rattle.engine_ports.specs.Clock.{ClockView}
use Rattle.engine_text.specs.declared.call.Call.{Call}
use Rattle.engine_text.specs.declared.reply.Reply.TheVariants as reply
use Rattle.engine_text.specs.declared.step.Step.{Step}
use Rattle.journal_lines.specs.Room.{HasRoom}
use Rattle.machine_model.specs.History.{Charter, moment_used, state_after}
use Rattle.session_model.specs.declared.turned.Turned.{Turned}
use Rattle.session_model.specs.declared.turned.Turned.TheVariants.{Replied, Begun, NotYet, Nothing, JournalFull, NoMemory}
use Rattle.session_model.specs.Exchange.{AtSome, IsMadeAt, IsQuiet}
use Rattle.session_model.specs.Pass.{PassView}
use Rattle.session_model.specs.Progress.{Moves}
use Rattle.session_model.specs.Turning.{GivesNoTicket, IsNotReady}

-- between a and b connection k made the call at moment m, and it was answered so. Or it made no call: at b this one isn't ready,
-- there is no room for it, or memory was refused
abbrev pub CameTo : Charter → ℕ → ℕ → Call → Turned → List Step → List Step → Type 0
CameTo ch k m c (Replied x) a b = IsMadeAt ch k m c a b x × GivesNoTicket x
CameTo ch k m c (Begun n) a b = IsMadeAt ch k m c a b (reply.Begun n)
CameTo ch k m c NotYet a b =
    IsQuiet k a b × AtSome a b (λ at. IsNotReady (state_after ch b) (moment_used (state_after ch at) m) c)
CameTo ch k m c JournalFull a b = IsQuiet k a b × (HasRoom ch (state_after ch b) c → ⊥)
CameTo ch k m c NoMemory a b = IsQuiet k a b
CameTo ch k m c Nothing a b = ⊥

-- a turn with a call came to that, at the one moment that was handed for it
pub record TurnComes (k handed : ℕ) (c : Call) (result : Turned) (p q : PassView) (v w : ClockView) : Type 0 where
  pub came : CameTo p.charter k handed c result p.seen q.seen
  pub moves : Moves k p q v w
  pub one : moves.handed ≡ handed ∷ []
