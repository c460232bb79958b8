-- Parts of a stream, each asked for once (own: the journal's are its lines, for which no moment counts).
use Rattle.std.specs.Prelude.{ℕ, ◌≡◌, Bool, false, List, [], ◌∷◌, nat_lt, IsFalse, IsTrue}
use Rattle.engine_ports.specs.Clock.{untold_clock}
use Rattle.engine_text.specs.declared.reply.Reply.{Reply}
use Rattle.engine_text.specs.declared.reply.Reply.TheVariants.{JournalStream}
use Rattle.engine_text.specs.declared.step.Step.{Step}
use Rattle.machine_model.specs.History.{Charter}
use Rattle.session_model.specs.declared.turned.Part.{Part}
use Rattle.session_model.specs.declared.turned.Part.TheVariants as P
use Rattle.session_model.specs.Exchange.{IsCaughtUp, IsQuiet}
use Rattle.session_model.specs.Pass.{PassView}
use Rattle.session_model.specs.Progress.{Moves}
use Rattle.daemon_core.specs.JournalTurns.{JournalSays}
use Rattle.attach_hub.specs.Streams.{PartSays}
use Rattle.polled_steps.specs.declared.telling.Told.{Told}

-- ---- a part

-- what a part tells of a history
abbrev pub PartTells : Reply → ℕ → ℕ → Part → List ℕ → List ℕ → Charter → List Step → Type 0
PartTells (JournalStream count) handed place part old new ch h = JournalSays ch h place part old new
PartTells reply handed place part old new ch h = PartSays reply handed place part old new ch h

-- the moments that it was asked at
abbrev pub moments_of : Reply → ℕ → List ℕ
moments_of (JournalStream count) handed = []
moments_of reply handed = handed ∷ []

-- one that is up to date was asked behind all that was due
abbrev pub IsAskedLate : Reply → Part → ℕ → Charter → List Step → List Step → Type 0
IsAskedLate (JournalStream count) part handed ch a b = Unit {0}
IsAskedLate reply P.UpToDate handed ch a b = IsCaughtUp ch (handed ∷ []) a b
IsAskedLate reply part handed ch a b = Unit {0}

-- a part of a stream from a place on was asked for, and appended; no call was made
pub record AsksPart (k handed : ℕ) (reply : Reply) (place : ℕ) (part : Part) (old new : List ℕ) (p q : PassView) : Type 0 where
  pub moves : Moves k p q untold_clock untold_clock
  pub moments : moves.handed ≡ moments_of reply handed
  pub quiet : IsQuiet k p.seen q.seen
  pub says : PartTells reply handed place part old new p.charter q.seen
  pub late : IsAskedLate reply part handed p.charter p.seen q.seen

-- ---- what it came to

-- whether a part up to this place is the last: of the journal it is known by its line
abbrev pub is_last : Reply → ℕ → Bool
is_last (JournalStream count) next = nat_lt count next
is_last reply next = false

-- the stream has come to its end, by a part that says so or is the last
abbrev pub EndsWhole : Reply → Part → Type 0
EndsWhole reply P.Whole = Unit {0}
EndsWhole reply (P.More next) = IsTrue (is_last reply next)
EndsWhole reply part = ⊥

-- these bytes were told up to a place, and more come; they are the stream's last; or none were told
abbrev pub IsToldBy : Reply → Told → Part → List ℕ → Type 0
IsToldBy reply (Told.More next bytes) part new = (part ≡ P.More next) × IsFalse (is_last reply next) × (bytes.items ≡ new)
IsToldBy reply (Told.Whole bytes) part new = EndsWhole reply part × (bytes.items ≡ new)
IsToldBy reply Told.UpToDate part new = part ≡ P.UpToDate
IsToldBy reply (Told.Gone next first) part new = part ≡ P.Gone next first
IsToldBy reply Told.NoMemory part new = part ≡ P.NoMemory

-- a part of a stream from a place on was asked for, and came to that
abbrev pub TellsOnce : ℕ → ℕ → Reply → ℕ → Told → PassView → PassView → Type 0
TellsOnce k handed reply place told p q =
    (part : Part) × (new : List ℕ) × IsToldBy reply told part new × AsksPart k handed reply place part [] new p q
