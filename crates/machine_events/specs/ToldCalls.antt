-- own: the events of calls of a container and of what is due of it, told before them.
use Rattle.std.specs.Prelude.{ℕ, List, [], ◌∷◌, ◌++◌, Option, Some, None}
use Rattle.engine_text.specs.Scripts.{Program}
use Rattle.engine_text.specs.declared.container.Container.{Container}
use Rattle.engine_text.specs.declared.event.Action.{Action}
use Rattle.engine_text.specs.declared.event.Event.{Event}
use Rattle.engine_text.specs.declared.owner.Owner.{Owner}
use Rattle.engine_text.specs.declared.owner.Owner.TheVariants.{Container as OfContainer, Exec as OfExec}
use Rattle.machine_model.specs.State.{State, container_numbered}
use Rattle.machine_model.specs.EventTexts.{plain_event}
use Rattle.machine_events.specs.Foretold.{running_numbers, told_code, told_launch}
use Rattle.machine_events.specs.ToldMeet.{told_thaw}

-- A launch, and then event restart.
abbrev pub told_again : Option Program → Container → ℕ → List Event
told_again script c t = told_launch script c t ++ plain_event Action.Restart c t ∷ []

-- The end of the main process of a container that may stand, if it ends.
abbrev pub told_main : Option Container → Option ℕ → Option Program → State → List Event
told_main None code script s = []
told_main (Some c) code script s = told_code (running_numbers c.number s) code c script s

-- The next op of the owner's process, which ends it with that code, if it does.
abbrev pub told_op : Owner → Option ℕ → Option Program → State → List Event
told_op (OfContainer n) code script s = told_main (container_numbered n s) code script s
told_op (OfExec n) code script s = told_thaw code n s
