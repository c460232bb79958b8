-- own: the events of a step, told before it from the state in which it begins.
use Rattle.std.specs.Prelude.{ℕ, Bool, true, false, List, [], ◌∷◌, ◌++◌, Option, Some, None, map}
use Rattle.std.specs.List.{flat_map}
use Rattle.engine_text.specs.Scripts.{Program}
use Rattle.engine_text.specs.declared.container.Container.{Container}
use Rattle.engine_text.specs.declared.container.Goal.{Goal}
use Rattle.engine_text.specs.declared.event.Action.{Action}
use Rattle.engine_text.specs.declared.event.Event.{Event}
use Rattle.engine_text.specs.declared.exec.Exec.{Exec}
use Rattle.engine_text.specs.declared.status.Status.{Status}
use Rattle.machine_model.specs.State.{State, container_numbered, exec_numbered, running_execs}
use Rattle.restart_policy.specs.declared.decision.Decision.{Decision}
use Rattle.restart_policy.specs.declared.decision.Decision.TheVariants.{Stay, Again}
use Rattle.machine_model.specs.Effects.EndMain.{ended, decision_at, is_dead}
use Rattle.machine_events.specs.ChangedLives.{renewed}
use Rattle.machine_events.specs.declared.foretell_end.Ending.{Ending}
use Rattle.machine_model.specs.EventTexts.{plain_event, die_event, exec_die_event, mount_event}

-- An event of a container that may stand.
abbrev pub told_of : (Container → Event) → Option Container → List Event
told_of event None = []
told_of event (Some c) = event c ∷ []

-- The end of an exec that may stand.
abbrev pub told_exec : ℕ → Option Exec → State → List Event
told_exec code None s = []
told_exec code (Some x) s = told_of (λ c. exec_die_event x.id code c s.clock) (container_numbered x.container s)

-- The end of the exec of that number.
abbrev pub told_number : State → ℕ → List Event
told_number s k = told_exec 137 (exec_numbered k s) s

-- The numbers of a container's running execs.
abbrev pub running_numbers : ℕ → State → List ℕ
running_numbers n s = map (λ x. x.number) (running_execs n s)

-- The container that ends so.
abbrev pub ending_as : Ending → Container → Container
ending_as ending c = record c { life = record c.life { goal = ending.goal; manual = ending.manual } }

-- Mounts or unmounts.
abbrev pub told_mounts : Action → Container → ℕ → List Event
told_mounts action c t = map (λ m. mount_event action m.volume c t) c.life.mounts

-- A launch.
abbrev pub told_launch : Option Program → Container → ℕ → List Event
told_launch None c t = []
told_launch (Some program) c t = told_mounts Action.Mount c t ++ plain_event Action.Start c t ∷ []

-- The destroy of one that is removed by itself.
abbrev pub told_gone : Bool → Event → List Event
told_gone true destroy = destroy ∷ []
told_gone false destroy = []

-- It is told where the container stays exited.
abbrev pub told_follow : Decision → Bool → Event → List Event
told_follow Stay auto destroy = told_gone auto destroy
told_follow (Again delay) auto destroy = []

-- What the goal wants after an end, told of the container as it ended.
abbrev pub told_goal : Goal → Option Program → Container → ℕ → List Event
told_goal Goal.Remove script c t = plain_event Action.Destroy c t ∷ []
told_goal Goal.Stop script c t = plain_event Action.Stop c t ∷ told_gone c.life.auto_remove (plain_event Action.Destroy c t)
told_goal Goal.Restart script c t = plain_event Action.Stop c t ∷ (told_launch script c t ++ plain_event Action.Restart c t ∷ [])
told_goal Goal.None script c t = told_follow (decision_at t c.life) c.life.auto_remove (plain_event Action.Destroy c t)

-- What follows an end, told so: in a dead container nothing.
abbrev pub told_unless_dead : Bool → Option Program → Container → ℕ → List Event
told_unless_dead true script c t = []
told_unless_dead false script c t = told_goal c.life.goal script c t

-- By the status in which it ended.
abbrev pub told_status : Status → Option Program → Container → ℕ → List Event
told_status status = told_unless_dead (is_dead status)

-- The end of the container's main process with that code, these execs of it running then.
abbrev pub told_end : List ℕ → ℕ → Container → Option Program → State → List Event
told_end execs code c script s =
    flat_map (told_number s) execs
    ++ (die_event code c s.clock ∷ (told_mounts Action.Unmount c s.clock
    ++ told_status c.life.status script (renewed (ended code s.clock) c) s.clock))

-- The same, if it ends.
abbrev pub told_code : List ℕ → Option ℕ → Container → Option Program → State → List Event
told_code execs None c script s = []
told_code execs (Some code) c script s = told_end execs code c script s
