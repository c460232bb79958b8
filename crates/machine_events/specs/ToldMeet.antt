-- own: the events of a signal that is met, told before it from the state in which it is sent.
use Rattle.std.specs.Prelude.{ℕ, Bool, true, false, List, [], ◌∷◌, ◌++◌, Option, Some, None, filter}
use Rattle.std.specs.List.{flat_map}
use Rattle.api_json.specs.Status.{is_paused}
use Rattle.engine_text.specs.Scripts.{Program}
use Rattle.engine_text.specs.declared.container.Container.{Container}
use Rattle.engine_text.specs.declared.event.Action.{Action}
use Rattle.engine_text.specs.declared.event.Event.{Event}
use Rattle.engine_text.specs.declared.owner.Owner.TheVariants.{Exec as OfExec}
use Rattle.engine_text.specs.declared.status.Status.{Status}
use Rattle.proc_kernel.specs.Foretelling.{code_at}
use Rattle.proc_kernel.specs.Processes.{thaw}
use Rattle.proc_kernel.specs.Tables.{process_of}
use Rattle.machine_model.specs.State.{State, exec_numbered}
use Rattle.machine_model.specs.EventTexts.{plain_event}
use Rattle.machine_model.specs.Calls.Kill.{by_hand}
use Rattle.machine_events.specs.ChangedLives.{renewed}
use Rattle.machine_events.specs.Foretold.{told_exec, running_numbers, told_code}

-- The code with which the exec's process ends once it goes on, if it does.
abbrev pub thawed_code : ℕ → State → Option ℕ
thawed_code j s = code_at (thaw s.clock) (process_of (OfExec j) s.processes)

-- Whether there is no code.
abbrev pub is_none : Option ℕ → Bool
is_none None = true
is_none (Some code) = false

-- Whether the exec's process lives on once it goes on.
abbrev pub lives_on : ℕ → State → Bool
lives_on j s = is_none (thawed_code j s)

-- Those that still run once they went on.
abbrev pub running_after : ℕ → State → List ℕ
running_after n s = filter (λ j. lives_on j s) (running_numbers n s)

-- The end of an exec, if it ends as it goes on.
abbrev pub told_thaw : Option ℕ → ℕ → State → List Event
told_thaw None j s = []
told_thaw (Some code) j s = told_exec code (exec_numbered j s) s

-- Event unpause, and the ends of those execs that end as they go on.
abbrev pub told_wake : ℕ → Container → State → List Event
told_wake n c s =
    plain_event Action.Unpause c s.clock ∷ flat_map (λ j. told_thaw (thawed_code j s) j s) (running_numbers n s)

-- What ends the main process with that code, if it does: a paused container is woken first.
abbrev pub told_waking : Bool → Option ℕ → ℕ → Container → Option Program → State → List Event
told_waking true code n c script s = told_wake n c s ++ told_code (running_after n s) code c script s
told_waking false code n c script s = told_code (running_numbers n s) code c script s

-- So does a signal with a thaw.
abbrev pub told_meet : Status → Option ℕ → ℕ → Container → Option Program → State → List Event
told_meet status = told_waking (is_paused status)

-- The signal of a kill: a final one is met, another is sent.
abbrev pub told_deliver : Bool → Option ℕ → ℕ → Container → Option Program → State → List Event
told_deliver true code n c script s = told_meet c.life.status code n (renewed by_hand c) script s
told_deliver false code n c script s = told_code (running_numbers n s) code c script s
