-- What a pass on a shared daemon stands for, and what a turn of it makes (own).
use Rattle.std.specs.Prelude.{ℕ, ◌≡◌, ◌++◌, ◌∷◌, [], false, List, map, Option, Some, None}
use Rattle.std.specs.List.{filter}
use Rattle.engine_text.specs.declared.call.Call.{Call}
use Rattle.engine_text.specs.declared.step.Step.{Step}
use Rattle.machine_model.specs.History.{Charter, state_after, moment_used, calls_of}
use Rattle.session_model.specs.declared.turned.Part.{Part}
use Rattle.session_model.specs.declared.turned.Turned.{Turned}
use Rattle.session_model.specs.Pass.{PassView, Only, is_call}
use Rattle.session_model.specs.Turning.{TurnSays}
use Rattle.daemon_core.specs.JournalTurns.{JournalSays}
use Rattle.daemon_core.specs.PartTurns.{PartDues}
use Rattle.daemon_core.specs.Storing.{charter_of, IsStored}
use Rattle.daemon_core.specs.declared.daemon.Daemon.{Daemon}
use Rattle.atomic_table.specs.Seated.{TableId}
use Rattle.turnstile.specs.declared.view.View.{View}
use Rattle.daemon_shared.specs.declared.one_daemon.Opening.{Opening}

-- whose call a step is; a due step is nobody's
abbrev pub author_of : Step → Option ℕ
author_of Step.Due = None
author_of (Step.Call k t c) = Some k

-- what no turn of a daemon changes
abbrev pub opening_in : Daemon → Opening
opening_in d = record { seed = d.seed; moment = d.opening; greatest = d.greatest }

abbrev pub charter_by : Opening → Charter
charter_by o = charter_of o.seed o.moment o.greatest

abbrev pub charter_in : Option Opening → Charter
charter_in None = charter_of [] 0 0
charter_in (Some o) = charter_by o

-- a history that a daemon with this opening keeps
abbrev pub IsKept : Opening → List Step → Type 0
IsKept o h = IsStored (charter_by o) h

-- which turnstile it is, as numbers
abbrev pub home_of : TableId → List ℕ
home_of t = t.words ∷ t.slots ∷ t.views_name ∷ t.atom ∷ t.block ∷ t.offset ∷ t.slot_names

-- a number with its calls in a history, whichever stood beside it
abbrev pub with_calls : List Step → ℕ × List Step → ℕ × List Step
with_calls h c = (c.0, calls_of c.0 h)

-- a pass has just the calls of its number, and of each joined one, in what it has seen
abbrev pub shared_pass : TableId → View Step Opening → PassView
shared_pass t v = record {
  seen = v.seen;
  own_calls = calls_of v.number v.seen;
  joined_calls = map (with_calls v.seen) v.joined_calls;
  number = Only v.number;
  pair = v.pair;
  looks = v.looks;
  charter = charter_in v.charter;
  alone = false;
  home = home_of t;
}

-- a turn in the history h made its own steps, and gave this answer
pub record Makes (o : Opening) (k handed : ℕ) (c : Option Call) (a : Turned)
    (h h' : List Step) : Type 0 where
  pub own : List Step
  pub is : h' ≡ h ++ own
  -- all calls among them are its own
  pub only : filter is_call own ≡ calls_of k own
  pub says : TurnSays (charter_by o) (state_after (charter_by o) h) k handed c a own

-- a part of a stream was asked for in the history h, behind what was due: so it was told, and appended
pub record MakesPart (o : Opening) (k handed : ℕ) (a : Part) (told : Charter → List Step → Type 0) (h h' : List Step) : Type 0 where
  pub own : List Step
  pub is : h' ≡ h ++ own
  pub only : filter is_call own ≡ calls_of k own
  pub dues : PartDues (state_after (charter_by o) h) (moment_used (state_after (charter_by o) h) handed) a own
  pub says : told (charter_by o) h'

-- a part of the journal was asked for in the history h, and no step was made
abbrev pub LooksAt : Opening → ℕ → Part → List ℕ → List ℕ → List Step → List Step → Type 0
LooksAt o number a old new h h' = (h' ≡ h) × JournalSays (charter_by o) h' number a old new
