-- What refuses the call of an exec, by its container's status (Docker Engine API v1.43, ContainerExec; own: the texts).
use Rattle.std.specs.Prelude.{ℕ, List, Option, Some, None}
use Rattle.engine_text.specs.declared.status.Status.{Status}
use Rattle.engine_text.specs.declared.status.Status.TheVariants.{Created, Running, Paused, Restarting, Removing, Exited, Dead}
use Rattle.machine_model.specs.Refusals.{being_removed, dead, not_running, paused, restarting}

-- The text of the 409, none where the container with that id runs.
abbrev pub exec_refusal : Status → List ℕ → Option (List ℕ)
exec_refusal Created id = Some (not_running id)
exec_refusal Running id = None
exec_refusal Paused id = Some (paused id)
exec_refusal Restarting id = Some (restarting id)
exec_refusal Removing id = Some (being_removed id)
exec_refusal Exited id = Some (not_running id)
exec_refusal Dead id = Some (dead id)
