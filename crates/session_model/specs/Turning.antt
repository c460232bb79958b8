-- What a turn does, whoever else may take turns. own: turns of this project.
use Rattle.std.specs.Prelude.{ℕ, ◌≡◌, ◌≤◌, ◌⊎◌, ◌==◌, ◌&&◌, Bool, false, List, [], ◌∷◌, ◌++◌, Option, Some, None, IsTrue, IsFalse}
use Rattle.std.specs.List.{filter}
use Rattle.engine_ports.specs.Rose.{Rose}
use Rattle.engine_text.specs.declared.call.Call.{Call}
use Rattle.engine_text.specs.declared.call.Call.TheVariants as call
use Rattle.engine_text.specs.declared.reply.Reply.{Reply}
use Rattle.engine_text.specs.declared.reply.Reply.TheVariants as reply
use Rattle.engine_text.specs.declared.step.Step.{Step}
use Rattle.machine_model.specs.State.{State}
use Rattle.journal_lines.specs.Room.{HasRoom}
use Rattle.machine_model.specs.Ready.{is_ready}
use Rattle.engine_text.specs.Soundness.{IsSound}
use Rattle.session_model.specs.declared.turned.Turned.{Turned}
use Rattle.session_model.specs.declared.turned.Turned.TheVariants.{Replied, Begun, NotYet, Nothing, JournalFull, NoMemory}
use Rattle.machine_model.specs.History.{Charter, state_after, state_from, reply_of, moment_used, is_due, IsLegal, DuesUntil, SomeDues, HasNone, HasNoCall, calls_of, is_drop}
use Rattle.session_model.specs.Pass.{PassView, Stays}

-- ---- which calls may be handed to a turn

-- whether it ends that ticket
abbrev pub is_end_of : ℕ → Call → Bool
is_end_of n (call.Take m) = m == n
is_end_of n (call.Drop m) = m == n
is_end_of n c = false

-- whether the step ends connection k's ticket
abbrev pub ends_ticket : ℕ → ℕ → Step → Bool
ends_ticket k n Step.Due = false
ends_ticket k n (Step.Call j t c) = (j == k) && is_end_of n c

-- connection k began the ticket, and hasn't ended it since
abbrev pub HasBegun : Charter → ℕ → ℕ → List Step → Type 0
HasBegun ch k n h =
    (before : List Step) × (behind : List Step) × (t : ℕ) × (c : Call) × (filter (ends_ticket k n) behind ≡ [])
    × (h ≡ before ++ Step.Call k t c ∷ behind) × (reply_of (state_after ch before) k t c ≡ reply.Begun n)

-- a take or a drop is of a ticket that the connection has begun
abbrev pub HasTicket : Charter → ℕ → List Step → Call → Type 0
HasTicket ch k h (call.Take n) = HasBegun ch k n h
HasTicket ch k h (call.Drop n) = HasBegun ch k n h
HasTicket ch k h c = Unit {0}

abbrev pub MayAsk : Charter → ℕ → List Step → Option Call → Type 0
MayAsk ch k h None = Unit {0}
MayAsk ch k h (Some c) = IsSound c × HasTicket ch k h c

-- ---- what its answer says of its own steps

abbrev pub GivesNoTicket : Reply → Type 0
GivesNoTicket (reply.Begun n) = ⊥
GivesNoTicket r = Unit {0}

-- there is room for the call, and it is made at the moment that counts
abbrev pub MakesAt : Charter → State → ℕ → ℕ → Call → List Step → List Step → Reply → Type 0
MakesAt ch s k t c dues own r =
    HasRoom ch (state_from s dues) c × (own ≡ dues ++ Step.Call k t c ∷ [])
    × (r ≡ reply_of (state_from s dues) k t c)

-- a call is made behind all that is due; a drop at once
abbrev pub Makes : Charter → State → ℕ → ℕ → Call → List Step → Reply → Type 0
Makes ch s k handed (call.Drop n) own r = MakesAt ch s k s.clock (call.Drop n) [] own r
Makes ch s k handed c own r =
    (dues : List Step) × DuesUntil s (moment_used s handed) dues
    × MakesAt ch s k (moment_used s handed) c dues own r

-- it isn't ready; nor is it while something is due, as no step can be made any more
abbrev pub IsNotReady : State → ℕ → Call → Type 0
IsNotReady s u c = IsFalse (is_ready s c) ⊎ IsTrue (is_due s u)

-- the call isn't made
abbrev pub Refuses : Charter → State → ℕ → Call → Turned → List Step → Type 0
Refuses ch s u c NotYet own =
    DuesUntil s u own × HasRoom ch (state_from s own) c × IsNotReady (state_from s own) u c
Refuses ch s u c JournalFull own = DuesUntil s u own × (HasRoom ch (state_from s own) c → ⊥)
Refuses ch s u c NoMemory own = SomeDues s u own
Refuses ch s u c result own = ⊥

-- the answer to a call, and to none
abbrev pub TurnSays : Charter → State → ℕ → ℕ → Option Call → Turned → List Step → Type 0
TurnSays ch s k handed (Some c) (Replied r) own = GivesNoTicket r × Makes ch s k handed c own r
TurnSays ch s k handed (Some c) (Begun n) own = Makes ch s k handed c own (reply.Begun n)
TurnSays ch s k handed (Some c) result own =
    IsFalse (is_drop c) × Refuses ch s (moment_used s handed) c result own
TurnSays ch s k handed None NoMemory own = SomeDues s (moment_used s handed) own
TurnSays ch s k handed None Nothing own = DuesUntil s (moment_used s handed) own
TurnSays ch s k handed None result own = ⊥

-- ---- a turn

-- steps of others, and then its own. No other has the pass's number; and while the pass hasn't
-- given the number of its standard input away, no other has that
pub record Turns (k : ℕ) (p q : PassView) : Type 0 where
  pub others : List Step
  pub own : List Step
  pub seen : q.seen ≡ p.seen ++ others ++ own
  pub apart : HasNoCall k others
  pub strangers : IsTrue p.pair → HasNone k others
  pub alone : IsTrue p.alone → others ≡ []
  pub legal : IsLegal q.charter q.seen
  pub own_calls : q.own_calls ≡ p.own_calls ++ calls_of k own
  pub looks : p.looks ≤ q.looks
  -- where others may take turns, the history was looked at anew
  pub looked : IsFalse p.alone → Rose p.looks q.looks
  pub stays : Stays p q

-- the state that it found
abbrev pub found : (k : ℕ) (p q : PassView) → Turns k p q → State
found k p q t = state_after p.charter (p.seen ++ t.others)

pub record Turn (k handed : ℕ) (c : Option Call) (result : Turned) (p q : PassView) : Type 0 where
  pub turns : Turns k p q
  pub says : TurnSays p.charter (found k p q turns) k handed c result turns.own
