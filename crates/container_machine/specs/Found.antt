-- own: the calls that name a container, by their reference, and what each does with the container that it names.
use Rattle.std.specs.Prelude.{ℕ, List, Option, Some, None}
use Rattle.engine_text.specs.declared.call.Call.{Call}
use Rattle.engine_text.specs.declared.container.Container.{Container}
use Rattle.machine_model.specs.State.{State}
use Rattle.machine_model.specs.Outcome.{Outcome}
use Rattle.machine_model.specs.Call.{outcome_of}
use Rattle.machine_model.specs.Calls.Start.{start_outcome}
use Rattle.machine_model.specs.Calls.Stop.{stop_outcome}
use Rattle.machine_model.specs.Calls.Restart.{restart_outcome}
use Rattle.machine_model.specs.Calls.Kill.{kill_outcome}
use Rattle.machine_model.specs.Calls.Pause.{pause_outcome}
use Rattle.machine_model.specs.Calls.Unpause.{unpause_outcome}
use Rattle.machine_model.specs.Calls.Rename.{rename_outcome}
use Rattle.machine_model.specs.Calls.Update.{update_outcome}
use Rattle.machine_model.specs.Calls.Remove.{remove_outcome}
use Rattle.machine_model.specs.Calls.Wait.{wait_outcome}
use Rattle.machine_model.specs.Calls.Inspect.{inspect_outcome}
use Rattle.machine_model.specs.Calls.Logs.{logs_outcome}
use Rattle.machine_model.specs.Calls.Attach.{attach_outcome}
use Rattle.machine_model.specs.Calls.ExecCreate.{exec_create_outcome}

-- The reference.
abbrev pub target_of : Call → Option (List ℕ)
target_of (Call.Start target) = Some target
target_of (Call.Stop target wait signal) = Some target
target_of (Call.Restart target wait signal) = Some target
target_of (Call.Kill target signal) = Some target
target_of (Call.Pause target) = Some target
target_of (Call.Unpause target) = Some target
target_of (Call.Rename target name) = Some target
target_of (Call.Update target policy) = Some target
target_of (Call.Remove target force) = Some target
target_of (Call.Wait target until) = Some target
target_of (Call.Inspect target) = Some target
target_of (Call.Logs target ask) = Some target
target_of (Call.Attach target ask) = Some target
target_of (Call.ExecCreate target words stdin out err) = Some target
target_of _ = None

-- What is done with the container; a call that names none does what it does.
abbrev pub found_outcome : Call → ℕ → Container → State → Outcome
found_outcome (Call.Start target) connection = start_outcome
found_outcome (Call.Stop target wait signal) connection = stop_outcome connection wait signal
found_outcome (Call.Restart target wait signal) connection = restart_outcome connection wait signal
found_outcome (Call.Kill target signal) connection = kill_outcome signal
found_outcome (Call.Pause target) connection = pause_outcome
found_outcome (Call.Unpause target) connection = unpause_outcome
found_outcome (Call.Rename target name) connection = rename_outcome name
found_outcome (Call.Update target policy) connection = update_outcome policy
found_outcome (Call.Remove target force) connection = remove_outcome connection force
found_outcome (Call.Wait target until) connection = wait_outcome connection until
found_outcome (Call.Inspect target) connection = inspect_outcome
found_outcome (Call.Logs target ask) connection = logs_outcome ask
found_outcome (Call.Attach target ask) connection = attach_outcome ask
found_outcome (Call.ExecCreate target words stdin out err) connection = exec_create_outcome words stdin out err
found_outcome call connection = λ c. outcome_of call connection
