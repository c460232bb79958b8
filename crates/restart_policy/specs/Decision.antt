-- The restart decision (Docker Engine API v1.43, RestartPolicy; Moby manual, "Docker run reference", Restart policies).
use Rattle.std.specs.Prelude.{ℕ, ◌*◌, Bool, true, false, not, ◌&&◌, ◌||◌, ◌==◌, nat_lt, nat_le, min, if◌then◌else◌}
use Rattle.engine_text.specs.declared.policy.Policy.{Policy}
use Rattle.engine_text.specs.declared.policy.Policy.TheVariants.{No, Always, UnlessStopped, OnFailure}
use Rattle.restart_policy.specs.declared.decision.Decision.{Decision}
use Rattle.restart_policy.specs.declared.decision.Decision.TheVariants.{Stay, Again}

-- Whether the policy restarts a container that ended with this code after so many restarts.
abbrev pub allows_restart : Policy → ℕ → ℕ → Bool
allows_restart No code count = false
allows_restart Always code count = true
allows_restart UnlessStopped code count = true
allows_restart (OnFailure limit) code count = not (code == 0) && (limit == 0 || nat_lt count limit)

-- The next delay: 100 ms at first and after a run of 10 seconds, else twice the last one, at most a minute.
abbrev pub delay_after : ℕ → ℕ → ℕ
delay_after ran delay = if delay == 0 || nat_le 10000 ran then 100 else min (2 * delay) 60000

-- What becomes of a container that has ended. own: one that a user stopped stays down under each policy.
abbrev pub decision : Policy → ℕ → ℕ → ℕ → ℕ → Bool → Decision
decision policy code ran count delay manual =
    if not manual && allows_restart policy code count then Again (delay_after ran delay) else Stay
