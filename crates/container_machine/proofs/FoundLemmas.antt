-- A call that names a container is that call with the container that its reference finds.
use Rattle.std.proofs.Common.{◌≡◌, ℕ, List, Some, ap}
use Rattle.engine_text.specs.declared.call.Call.{Call}
use Rattle.engine_text.specs.declared.container.Container.{Container}
use Rattle.machine_model.specs.State.{State}
use Rattle.machine_model.specs.Outcome.{Outcome, at_reference}
use Rattle.machine_model.specs.Call.{outcome_of}
use Rattle.machine_model.specs.Calls.Start.{start_outcome}
use Rattle.machine_model.specs.Calls.Stop.{stop_outcome}
use Rattle.machine_model.specs.Calls.Restart.{restart_outcome}
use Rattle.machine_model.specs.Calls.Kill.{kill_outcome}
use Rattle.machine_model.specs.Calls.Pause.{pause_outcome}
use Rattle.machine_model.specs.Calls.Unpause.{unpause_outcome}
use Rattle.machine_model.specs.Calls.Rename.{rename_outcome}
use Rattle.machine_model.specs.Calls.Update.{update_outcome}
use Rattle.machine_model.specs.Calls.Remove.{remove_outcome}
use Rattle.machine_model.specs.Calls.Wait.{wait_outcome}
use Rattle.machine_model.specs.Calls.Inspect.{inspect_outcome}
use Rattle.machine_model.specs.Calls.Logs.{logs_outcome}
use Rattle.machine_model.specs.Calls.Attach.{attach_outcome}
use Rattle.machine_model.specs.Calls.ExecCreate.{exec_create_outcome}
use Rattle.container_machine.specs.Found.{found_outcome, target_of}

by_name : (name target : List ℕ) (f : Container → State → Outcome) → Some name ≡ Some target → at_reference name f ≡ at_reference target f
by_name name target f e = let is : name ≡ target = cc in ap (λ r. at_reference r f) is

pub at_target : (call : Call) (connection : ℕ) (target : List ℕ) → target_of call ≡ Some target → outcome_of call connection ≡ at_reference target (found_outcome call connection)
at_target (Call.Start name) connection target e = by_name name target start_outcome e
at_target (Call.Stop name wait signal) connection target e = by_name name target (stop_outcome connection wait signal) e
at_target (Call.Restart name wait signal) connection target e = by_name name target (restart_outcome connection wait signal) e
at_target (Call.Kill name signal) connection target e = by_name name target (kill_outcome signal) e
at_target (Call.Pause name) connection target e = by_name name target pause_outcome e
at_target (Call.Unpause name) connection target e = by_name name target unpause_outcome e
at_target (Call.Rename name given) connection target e = by_name name target (rename_outcome given) e
at_target (Call.Update name policy) connection target e = by_name name target (update_outcome policy) e
at_target (Call.Remove name force) connection target e = by_name name target (remove_outcome connection force) e
at_target (Call.Wait name until) connection target e = by_name name target (wait_outcome connection until) e
at_target (Call.Inspect name) connection target e = by_name name target inspect_outcome e
at_target (Call.Logs name ask) connection target e = by_name name target (logs_outcome ask) e
at_target (Call.Attach name ask) connection target e = by_name name target (attach_outcome ask) e
at_target (Call.ExecCreate name words stdin out err) connection target e = by_name name target (exec_create_outcome words stdin out err) e
at_target call connection target e = absurd (cc)
