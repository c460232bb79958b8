-- own: what follows the end of a main process, by the container's number.
use Rattle.std.specs.Prelude.{ℕ, Bool}
use Rattle.engine_text.specs.Scripts.{Program}
use Rattle.engine_text.specs.declared.container.Goal.{Goal}
use Rattle.engine_text.specs.declared.owner.Owner.TheVariants.{Container as OfContainer}
use Rattle.machine_model.specs.State.{State, change_life}
use Rattle.machine_model.specs.Chain.{Effect, with_container}
use Rattle.machine_model.specs.Effects.Destroy.{destroy}
use Rattle.machine_model.specs.Effects.EndMain.{stay, follow, decision_at, by_status}
use Rattle.machine_model.specs.Effects.Launch.{launch_by_call, launched, spawn}

-- A launch: its life begins anew, and its process is spawned.
abbrev pub begun : ℕ → Program → Bool → ℕ → State → State
begun n program stdin room s = spawn (OfContainer n) program stdin room (change_life n (launched s) s)

-- It stays exited, or is restarted.
abbrev pub followed : ℕ → State → Effect
followed n = with_container n (λ c s. follow (decision_at s.clock c.life) c.life.auto_remove n s)

-- It stays exited, and is gone where it is removed by itself.
abbrev pub stayed : ℕ → State → Effect
stayed n = with_container n (λ c. stay c.life.auto_remove n)

-- With the goal that it had.
abbrev pub goal_effect : Goal → ℕ → State → Effect
goal_effect Goal.Remove n = destroy n
goal_effect Goal.Stop n = stayed n
goal_effect Goal.Restart n = launch_by_call n
goal_effect Goal.None n = followed n

-- By its status and its goal.
abbrev pub concluded : ℕ → State → Effect
concluded n = with_container n (λ c. by_status c.life.status c)
