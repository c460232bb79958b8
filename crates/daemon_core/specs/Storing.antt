-- What a daemon keeps: its machine, and the steps that led to the machine's state (own).
use Rattle.std.specs.Prelude.{ℕ, ◌≡◌, ◌<◌, ◌≤◌, ◌+◌, ◌^◌, ◌&&◌, not, min, max, Bool, List, [], ◌∷◌, ◌++◌, length, Option, Some, None, IsTrue, true, false}
use Rattle.std.specs.List.{filter}
use Rattle.engine_text.specs.declared.call.Call.{Call}
use Rattle.engine_text.specs.declared.call.Call.TheVariants.{Take, Drop}
use Rattle.engine_text.specs.declared.reply.Reply.{Reply}
use Rattle.engine_text.specs.declared.reply.Reply.TheVariants as reply
use Rattle.engine_text.specs.declared.step.Step.{Step}
use Rattle.session_model.specs.declared.turned.Turned.{Turned}
use Rattle.session_model.specs.declared.turned.Turned.TheVariants as turned
pub use Rattle.session_model.specs.Pass.{is_call}
use Rattle.machine_model.specs.State.{State}
use Rattle.machine_model.specs.History.{Charter, after_step, state_from, reply_of, acts_by, latest, SomeDues, AreLawful, IsLegal, has_ticket, is_due, greatest_jump, greatest_moment}
use Rattle.machine_model.specs.Ready.{is_ready}
use Rattle.journal_lines.specs.Room.{HasRoom}
use Rattle.session_model.specs.Turning.{GivesNoTicket, IsNotReady}
use Rattle.session_model.specs.Pass.{PassView, Every}

-- what no step changes
abbrev pub charter_of : List ℕ → ℕ → ℕ → Charter
charter_of seed opening greatest = record { seed = seed; opening = opening; greatest = greatest }

-- who takes all turns has seen the whole history, and every number is its own
abbrev pub pass_of : Charter → List Step → PassView
pass_of ch steps = record {
  seen = steps;
  own_calls = filter is_call steps;
  joined_calls = [];
  number = Every;
  pair = true;
  looks = 0;
  charter = ch;
  alone = true;
  home = [];
}

-- a history that a daemon keeps: it is legal, and 64 bits count its steps
abbrev pub IsStored : Charter → List Step → Type 0
IsStored ch h = IsLegal ch h × (length h < 2 ^ 64)

-- a call was made in a state, and is the last of the steps
pub record Adds (k t : ℕ) (c : Call) (r : Reply) (s s' : State) (steps steps' : List Step) : Type 0 where
  pub state : s' ≡ after_step s (Step.Call k t c)
  pub steps_are : steps' ≡ steps ++ Step.Call k t c ∷ []
  pub reply : r ≡ reply_of s k t c

-- the due step was made, and is the last of the steps
pub record AddsDue (s s' : State) (steps steps' : List Step) : Type 0 where
  pub state : s' ≡ after_step s Step.Due
  pub steps_are : steps' ≡ steps ++ Step.Due ∷ []
  pub later : s.clock ≤ s'.clock
  pub count : s'.step_count ≡ s.step_count + 1

-- steps that were due by a moment were made, and are the last of the steps
pub record AddsDues (moment : ℕ) (s s' : State) (steps steps' : List Step) : Type 0 where
  pub dues : List Step
  pub some : SomeDues s moment dues
  pub lawful : AreLawful s dues
  pub state : s' ≡ state_from s dues
  pub steps_are : steps' ≡ steps ++ dues
  pub later : s.clock ≤ s'.clock

-- a call can stand at the moment: no step that is due by it is to be made first
pub record IsClear (s : State) (moment : ℕ) : Type 0 where
  pub from : s.clock ≤ moment
  pub until : moment ≤ latest s
  pub idle : acts_by s moment ≡ false

-- a take and a drop are of a ticket that stands, and is the connection's
abbrev pub HoldsTicket : State → ℕ → Call → Type 0
HoldsTicket s k (Take n) = IsTrue (has_ticket s k n)
HoldsTicket s k (Drop n) = IsTrue (has_ticket s k n)
HoldsTicket s k c = Unit {0}

-- the ticket that is dropped
abbrev pub drop_of : Option Call → Option ℕ
drop_of (Some (Drop n)) = Some n
drop_of c = None

-- whether a call can be made where nothing acts any more: it is ready; for a take nothing is due, either
abbrev pub is_open : State → ℕ → Call → Bool
is_open s moment (Take n) = is_ready s (Take n) && not (is_due s moment)
is_open s moment c = is_ready s c

-- the call was made in that state and is the last of the steps, or it wasn't ready, or there was no room or no memory for it
abbrev pub Ends : Charter → State → ℕ → ℕ → Call → Turned → List Step → List Step → Type 0
Ends ch s k t c (turned.Replied r) steps steps' =
    GivesNoTicket r × HasRoom ch s c × (steps' ≡ steps ++ Step.Call k t c ∷ []) × (r ≡ reply_of s k t c)
Ends ch s k t c (turned.Begun n) steps steps' =
    HasRoom ch s c × (steps' ≡ steps ++ Step.Call k t c ∷ []) × (reply.Begun n ≡ reply_of s k t c)
Ends ch s k t c turned.NotYet steps steps' = HasRoom ch s c × IsNotReady s t c × (steps' ≡ steps)
Ends ch s k t c turned.JournalFull steps steps' = (HasRoom ch s c → ⊥) × (steps' ≡ steps)
Ends ch s k t c turned.NoMemory steps steps' = steps' ≡ steps
Ends ch s k t c result steps steps' = ⊥

-- for the room alone, of which the seed and the opening tell nothing
abbrev pub charter_for : ℕ → Charter
charter_for greatest = charter_of [] 0 greatest

-- the moment that counts, by the clock alone
abbrev pub moment_of : ℕ → ℕ → ℕ
moment_of clock handed = max clock (min handed (min (clock + greatest_jump) greatest_moment))

-- the answer of a turn by the reply to its call
abbrev pub turned_by : Reply → Turned
turned_by (reply.Begun n) = turned.Begun n
turned_by r = turned.Replied r
