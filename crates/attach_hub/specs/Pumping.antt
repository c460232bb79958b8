-- How pumping standard input goes on and ends (own: input comes as calls, one for each piece that is read, and one for its end).
use Rattle.std.specs.Prelude.{ℕ, ◌≡◌, Bool, true, List, ◌++◌, Some, Result, Ok, Err}
use Rattle.engine_ports.specs.Rose.{Rose}
use Rattle.engine_ports.specs.Source.{SourceView, SourceGave}
use Rattle.engine_ports.specs.Sink.{SinkView}
use Rattle.engine_ports.specs.Clock.{ClockView}
use Rattle.engine_ports.specs.Door.{outside}
use Rattle.engine_text.specs.declared.call.Call.{Call}
use Rattle.engine_text.specs.declared.call.Call.TheVariants.{Feed, FeedEnd}
use Rattle.engine_text.specs.declared.owner.Owner.{Owner}
use Rattle.engine_text.specs.declared.reply.Reply.{Reply}
use Rattle.engine_text.specs.declared.reply.Reply.TheVariants.{Fed}
use Rattle.engine_text.specs.declared.reply.LogSpec.{LogSpec}
use Rattle.engine_text.specs.declared.step.Step.{Step}
use Rattle.machine_model.specs.History.{Charter, input_of, state_after}
use Rattle.journal_lines.specs.Room.{HasRoom}
use Rattle.session_model.specs.declared.followed.PumpEnd.{PumpEnd}
use Rattle.session_model.specs.declared.followed.PumpEnd.TheVariants as P
use Rattle.session_model.specs.Pass.{PassView}
use Rattle.session_model.specs.Exchange.{AtSome, IsHeldUp, IsMade, IsQuiet, Pumps}
use Rattle.session_model.specs.Progress.{Moves}
use Rattle.session_model.specs.Session.{PumpCause}
use Rattle.attach_hub.specs.Following.{IsStill}

-- ---- one call of the input

-- a reply tells whether input was taken
abbrev pub IsFed : Reply → Type 0
IsFed (Fed taken) = Unit {0}
IsFed reply = ⊥

module _ (ch : Charter) (k : ℕ) where
  -- it was made, and it was told whether it was taken; or it wasn't made, where the journal had no room, it was held up when the
  -- wait for it was stopped, or memory was refused
  abbrev pub HeardSays : Call → Result Bool PumpEnd → List Step → List Step → Type 0
  HeardSays c (Ok taken) a b = IsMade ch k (input_of k) c a b (Fed taken)
  HeardSays c (Err P.JournalFull) a b = IsQuiet k a b × AtSome a b (λ at. HasRoom ch (state_after ch at) c → ⊥)
  HeardSays c (Err P.Stopped) a b = IsQuiet k a b × IsHeldUp ch c a b
  HeardSays c (Err P.NoMemory) a b = IsQuiet k a b
  HeardSays c (Err end) a b = ⊥

-- what rose outside; it comes to nothing else
abbrev pub HeardCause : Result Bool PumpEnd → ClockView → ClockView → Type 0
HeardCause (Ok taken) v v' = Unit {0}
HeardCause (Err P.Stopped) v v' = Rose v.stops v'.stops
HeardCause (Err P.JournalFull) v v' = Unit {0}
HeardCause (Err P.NoMemory) v v' = Unit {0}
HeardCause (Err end) v v' = ⊥

-- a call of connection k's input was asked for until it was ready; what is said of it holds where the connection itself makes
-- no call meanwhile
pub record Hears (k : ℕ) (c : Call) (heard : Result Bool PumpEnd) (p q : PassView) (v v' : ClockView) : Type 0 where
  pub moves : Moves (input_of k) p q v v'
  pub says : IsStill k p.seen q.seen → HeardSays p.charter k c heard p.seen q.seen
  pub cause : HeardCause heard v v'

-- the end of the input was told, or that call wasn't made
abbrev pub end_by : Result Bool PumpEnd → PumpEnd
end_by (Ok taken) = P.Ended
end_by (Err end) = end

abbrev pub EndsInput : ℕ → Owner → ℕ → PumpEnd → PassView → PassView → ClockView → ClockView → Type 0
EndsInput k owner run end p q v v' =
    (heard : Result Bool PumpEnd) × Hears k (FeedEnd owner run) heard p q v v' × (end ≡ end_by heard)

-- ---- the input as a whole

-- the input of connection k was pumped to the run that a stream names: the bytes ahead of its reader, and those that the
-- source gave. It was pumped so where the connection itself makes no call meanwhile
pub record PumpsInput (k : ℕ) (spec : LogSpec) (end : PumpEnd) (p q : PassView) (ahead : List ℕ) (s s' : SourceView) (v v' : ClockView) : Type 0 where
  pub moves : Moves (input_of k) p q v v'
  pub read : List ℕ
  pub source : SourceGave s read s'
  pub says : IsStill k p.seen q.seen → Pumps p.charter k spec (ahead ++ read) (Some end) p.seen q.seen
  pub cause : (u u' : SinkView) → PumpCause (Some end) (outside s u v) (outside s' u' v')

-- one piece of it was read and fed, and taken
pub record FeedsPiece (k : ℕ) (spec : LogSpec) (run : ℕ) (p q : PassView) (ahead ahead' : List ℕ) (s s' : SourceView) (v v' : ClockView) : Type 0 where
  pub read : List ℕ
  pub source : SourceGave s read s'
  pub piece : List ℕ
  pub bytes : ahead ++ read ≡ piece ++ ahead'
  pub heard : Hears k (Feed spec.owner run piece) (Ok true) p q v v'

-- a next piece was, or the pump ended
abbrev pub FeedsOrEnds : ℕ → LogSpec → ℕ → Result (Unit {0}) PumpEnd → PassView → PassView → List ℕ → List ℕ
    → SourceView → SourceView → ClockView → ClockView → Type 0
FeedsOrEnds k spec run (Ok x) p q ahead ahead' s s' v v' = FeedsPiece k spec run p q ahead ahead' s s' v v'
FeedsOrEnds k spec run (Err end) p q ahead ahead' s s' v v' = PumpsInput k spec end p q ahead s s' v v'
