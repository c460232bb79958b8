-- own: the events of a signal and its event kill, told before it from the state in which it is sent.
use Rattle.std.specs.Prelude.{ℕ, List, ◌∷◌, Option}
use Rattle.engine_text.specs.Scripts.{Program}
use Rattle.engine_text.specs.declared.container.Container.{Container}
use Rattle.engine_text.specs.declared.container.Goal.{Goal}
use Rattle.engine_text.specs.declared.event.Event.{Event}
use Rattle.machine_model.specs.State.{State}
use Rattle.machine_model.specs.EventTexts.{kill_event}
use Rattle.machine_events.specs.ToldMeet.{told_meet}

-- The container with that goal.
abbrev pub aimed : Goal → Container → Container
aimed goal c = record c { life = record c.life { goal = goal } }

-- Event kill, and then the signal is met, which ends the main process with that code, if it does.
abbrev pub told_kill : ℕ → Option ℕ → Container → Option Program → State → List Event
told_kill signal code c script s = kill_event signal c s.clock ∷ told_meet c.life.status code c.number c script s
