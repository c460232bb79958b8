-- The runs of a container, and the pauses in them (Docker Engine API v1.43, SystemEvents; own: where a pause ends).
use Rattle.std.specs.Prelude.{ℕ, List, [], ◌∷◌, ◌++◌, Bool, true, false, ◌&&◌, Option, Some, None, if◌then◌else◌}
use Rattle.std.specs.Option.{option_map_or}
use Rattle.engine_text.specs.Texts.{same_bytes}
use Rattle.engine_text.specs.declared.event.Event.{Event}
use Rattle.engine_text.specs.declared.event.EventKind.{EventKind}
use Rattle.engine_text.specs.declared.event.EventKind.TheVariants as kind
use Rattle.engine_text.specs.declared.event.Action.{Action}
use Rattle.engine_text.specs.declared.event.Action.TheVariants as action
use Rattle.health_watch.specs.declared.mark.Mark.{Mark}
use Rattle.health_watch.specs.declared.mark.Turn.{Turn}
use Rattle.health_watch.specs.declared.mark.Turn.TheVariants.{Start, Die, Pause, Unpause}

-- ---- events

-- what an action means for the runs of its container
abbrev pub turn_by : Action → Option Turn
turn_by action.Start = Some Start
turn_by action.Die = Some Die
turn_by action.Pause = Some Pause
turn_by action.Unpause = Some Unpause
turn_by other = None

-- whether an event is of a container
abbrev pub is_container : EventKind → Bool
is_container kind.Container = true
is_container kind.Volume = false

-- what an event means for the container with that id
abbrev pub turn_of : List ℕ → Event → Option Turn
turn_of id e = if is_container e.kind && same_bytes e.id id then turn_by e.action else None

-- the mark of an event, where it means something
abbrev pub marks_by : List ℕ → Event → List Mark
marks_by id e = option_map_or (λ turn. record { turn = turn; moment = e.moment } ∷ []) (turn_of id e) []

-- the marks of these events
abbrev pub marks_of : List ℕ → List Event → List Mark
marks_of id [] = []
marks_of id (e ∷ es) = marks_by id e ++ marks_of id es

-- ---- runs

-- from a moment up to another, or open
pub record Span : Type 0 where
  pub from : ℕ
  pub to : Option ℕ

-- a run, and the pauses in it, in order
pub record Run : Type 0 where
  pub span : Span
  pub pauses : List Span

-- a run ends with the next start or die
abbrev pub run_end_by : Turn → ℕ → Option ℕ → Option ℕ
run_end_by Start m later = Some m
run_end_by Die m later = Some m
run_end_by Pause m later = later
run_end_by Unpause m later = later

abbrev pub run_end : List Mark → Option ℕ
run_end [] = None
run_end (k ∷ ks) = run_end_by k.turn k.moment (run_end ks)

-- a pause ends with the next unpause, or with its run
abbrev pub pause_end_by : Turn → ℕ → Option ℕ → Option ℕ
pause_end_by Start m later = Some m
pause_end_by Die m later = Some m
pause_end_by Pause m later = later
pause_end_by Unpause m later = Some m

abbrev pub pause_end : List Mark → Option ℕ
pause_end [] = None
pause_end (k ∷ ks) = pause_end_by k.turn k.moment (pause_end ks)

-- the pauses up to the run's end: each begins with a pause
abbrev pub pauses_by : Turn → ℕ → Option ℕ → List Span → List Span
pauses_by Start m end later = []
pauses_by Die m end later = []
pauses_by Pause m end later = record { from = m; to = end } ∷ later
pauses_by Unpause m end later = later

abbrev pub pauses_in : List Mark → List Span
pauses_in [] = []
pauses_in (k ∷ ks) = pauses_by k.turn k.moment (pause_end ks) (pauses_in ks)

-- a start begins a run
abbrev pub runs_by : Turn → Run → List Run → List Run
runs_by Start run later = run ∷ later
runs_by other run later = later

-- the runs, in order; the last may be open
abbrev pub runs_of : List Mark → List Run
runs_of [] = []
runs_of (k ∷ ks) = runs_by k.turn (record {
  span = record { from = k.moment; to = run_end ks };
  pauses = pauses_in ks;
}) (runs_of ks)
