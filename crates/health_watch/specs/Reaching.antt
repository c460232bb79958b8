-- own: how far a watch has come, and what is to come from there.
use Rattle.std.specs.Prelude.{ℕ, ◌≡◌, ◌≤◌, ◌<◌, ◌+◌, ◌-◌, ◌⊎◌, ⊤, List, [], ◌∷◌, ◌++◌, ◌&&◌, nat_le, nat_lt, if◌then◌else◌, Option, Some, None, option_map, option_to_list, drop}
use Rattle.std.specs.List.{fold}
use Rattle.engine_text.specs.declared.health.HealthSpec.{HealthSpec}
use Rattle.health_watch.specs.declared.health.Health.TheVariants as health
use Rattle.health_watch.specs.declared.health.Change.{Change}
use Rattle.health_watch.specs.declared.mark.Mark.{Mark}
use Rattle.health_watch.specs.declared.mark.Turn.{Turn}
use Rattle.health_watch.specs.declared.mark.Turn.TheVariants.{Start, Die, Pause, Unpause}
use Rattle.health_watch.specs.declared.outcome.Outcome.{Outcome}
use Rattle.health_watch.specs.declared.outcome.ProbeResult.{ProbeResult}
use Rattle.health_watch.specs.declared.open_run.OpenRun.{OpenRun}
use Rattle.health_watch.specs.declared.reached.Reached.{Reached}
use Rattle.health_watch.specs.declared.tally.Tally.{Tally}
use Rattle.health_watch.specs.Runs.{Span, run_end, pause_end, pauses_in, runs_of}
use Rattle.health_watch.specs.Results.{results_from, most_probes}
use Rattle.health_watch.specs.Health.{Standing, idle, starting, behind_result, behind_results, behind_run}

-- ---- what is to come

-- the pause that is open: it ends as these marks tell
abbrev pub open_pause : Option ℕ → List Mark → List Span
open_pause None marks = []
open_pause (Some from) marks = record { from = from; to = pause_end marks } ∷ []

-- the results that are to come in the open run
abbrev pub coming : HealthSpec → (ℕ → Outcome) → OpenRun → List Mark → List ProbeResult
coming spec outcome run marks =
    results_from spec outcome (open_pause run.paused marks ++ pauses_in marks) run.left run.number run.due

-- behind the open run, as it is at u
abbrev pub behind_open : HealthSpec → (ℕ → Outcome) → ℕ → Standing → Option OpenRun → List Mark → Standing
behind_open spec outcome u s None marks = s
behind_open spec outcome u s (Some run) marks =
    behind_results spec run.from (run_end marks) u s (coming spec outcome run marks)

-- behind the marks that are to come, as it is at u
abbrev pub behind_marks : HealthSpec → (ℕ → Outcome) → ℕ → Standing → Option OpenRun → List Mark → Standing
behind_marks spec outcome u s run marks =
    fold (behind_run spec outcome u) (behind_open spec outcome u s run marks) (runs_of marks)

-- ---- one step

-- a pause is open that holds the next probe up
abbrev pub IsHeld : Option ℕ → ℕ → Type 0
IsHeld None due = ⊥
IsHeld (Some from) due = from ≤ due

-- no result of the open run comes before that moment: no probe is left, or one is held up, or the next result comes later
abbrev pub IsAhead : ℕ → (ℕ → Outcome) → OpenRun → Type 0
IsAhead m outcome run =
    (run.left ≡ 0) ⊎ (IsHeld run.paused run.due ⊎ (m ≤ run.due + (outcome run.number).after))

-- the same where no run may be open
abbrev pub AreAhead : ℕ → (ℕ → Outcome) → Option OpenRun → Type 0
AreAhead m outcome None = ⊤
AreAhead m outcome (Some run) = IsAhead m outcome run

-- the next result, unless a pause holds it up
abbrev pub next_result : (ℕ → Outcome) → OpenRun → ProbeResult
next_result outcome run = record { moment = run.due + (outcome run.number).after; passes = (outcome run.number).passes }

-- it is the next result, and comes before that moment
pub record IsNext (m : ℕ) (outcome : ℕ → Outcome) (run : OpenRun) (r : ProbeResult) : Type 0 where
  pub some : 0 < run.left
  pub free : IsHeld run.paused run.due → ⊥
  pub is : r ≡ next_result outcome run
  pub before : r.moment < m

-- the next result before that moment, if there is one
abbrev pub NextResult : ℕ → (ℕ → Outcome) → OpenRun → Option ProbeResult → Type 0
NextResult m outcome run None = IsAhead m outcome run
NextResult m outcome run (Some r) = IsNext m outcome run r

-- the open run behind its next result, which came at that moment
abbrev pub behind_next : HealthSpec → ℕ → OpenRun → OpenRun
behind_next spec m run = record run { left = run.left - 1; number = run.number + 1; due = m + spec.interval }

-- a due moment as the end of the pause moves it
abbrev pub due_behind : Option ℕ → ℕ → ℕ → ℕ
due_behind None end due = due
due_behind (Some from) end due = if nat_le from due && nat_lt due end then end else due

-- a pause that is open already stays so
abbrev pub paused_from : Option ℕ → ℕ → Option ℕ
paused_from None m = Some m
paused_from (Some from) m = Some from

-- a run that begins
abbrev pub run_begun : HealthSpec → ℕ → OpenRun
run_begun spec m = record { from = m; paused = None; left = most_probes; number = 1; due = m + spec.interval }

-- the open run behind a pause and behind an unpause
abbrev pub paused_at : ℕ → OpenRun → OpenRun
paused_at m run = record run { paused = paused_from run.paused m }

abbrev pub unpaused_at : ℕ → OpenRun → OpenRun
unpaused_at m run = record run { paused = None; due = due_behind run.paused m run.due }

-- the open run behind a mark
abbrev pub run_turned : HealthSpec → Turn → ℕ → Option OpenRun → Option OpenRun
run_turned spec Start m run = Some (run_begun spec m)
run_turned spec Die m run = None
run_turned spec Pause m run = option_map (paused_at m) run
run_turned spec Unpause m run = option_map (unpaused_at m) run

-- the standing behind a mark
abbrev pub standing_turned : Turn → Option OpenRun → Standing → Standing
standing_turned Start run s = starting s.changes
standing_turned Die None s = s
standing_turned Die (Some run) s = idle s.changes
standing_turned Pause run s = s
standing_turned Unpause run s = s

-- the tally behind a mark
abbrev pub tally_turned : Turn → Option OpenRun → Tally → Tally
tally_turned Start run t = record { status = health.Starting; streak = 0 }
tally_turned Die None t = t
tally_turned Die (Some run) t = record { status = health.None; streak = 0 }
tally_turned Pause run t = t
tally_turned Unpause run t = t

-- both behind a mark
abbrev pub reached_turned : HealthSpec → Mark → Reached → Reached
reached_turned spec k r = record {
  tally = tally_turned k.turn r.run r.tally;
  run = run_turned spec k.turn k.moment r.run;
}

-- a tally, with the changes so far
abbrev pub standing_in : Tally → List Change → Standing
standing_in t changes = record { status = t.status; streak = t.streak; changes = changes }

-- the next result before that moment, where a run is open
abbrev pub NextOf : ℕ → (ℕ → Outcome) → Option OpenRun → Option ProbeResult → Type 0
NextOf m outcome None r = r ≡ None
NextOf m outcome (Some run) r = NextResult m outcome run r

-- there is room to count one result more
abbrev pub CanTake : ℕ → Option OpenRun → Type 0
CanTake streak None = ⊤
CanTake streak (Some run) = (0 < run.left) × (run.number < 100001) × (streak ≤ 100000)

-- a change, if any, is of that moment
abbrev pub IsOfMoment : ℕ → Option Change → Type 0
IsOfMoment m None = ⊤
IsOfMoment m (Some c) = c.moment ≡ m

-- the next result of the open run is counted, and the change that it brings is told
abbrev pub TakeSays : HealthSpec → ProbeResult → Reached → Option Change → Reached → Type 0
TakeSays spec found old change new = (run : OpenRun) → old.run ≡ Some run
    → (new.run ≡ Some (behind_next spec found.moment run))
    × ((cs : List Change) → behind_result spec run.from (standing_in old.tally cs) found ≡ standing_in new.tally (cs ++ option_to_list change))
    × IsOfMoment found.moment change

-- ---- moments

-- these marks rise, from that moment on
abbrev pub RiseFrom : ℕ → List Mark → Type 0
RiseFrom m [] = ⊤
RiseFrom m (k ∷ ks) = (m ≤ k.moment) × RiseFrom k.moment ks

-- the pause that is open began by that moment
abbrev pub IsPausedBy : ℕ → Option ℕ → Type 0
IsPausedBy m None = ⊤
IsPausedBy m (Some from) = from ≤ m

abbrev pub ArePausedBy : ℕ → Option OpenRun → Type 0
ArePausedBy m None = ⊤
ArePausedBy m (Some run) = IsPausedBy m run.paused

-- all marks of these are later than that moment, or there is none
abbrev pub AreLater : ℕ → List Mark → Type 0
AreLater m [] = ⊤
AreLater m (k ∷ ks) = m < k.moment

-- the first of the marks that are to come, where it isn't later than that moment
abbrev pub MarkSays : ℕ → ℕ → List Mark → Option Mark → Type 0
MarkSays until place marks None = AreLater until (drop place marks)
MarkSays until place marks (Some k) = (drop place marks ≡ k ∷ drop (place + 1) marks) × (k.moment ≤ until)

-- results count before a mark, and where there is none up to a moment
abbrev pub limit_by : Option Mark → ℕ → ℕ
limit_by None until = until + 1
limit_by (Some k) until = k.moment
