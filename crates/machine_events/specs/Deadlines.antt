-- own: what a deadline or a timer needs of its container.
use Rattle.std.specs.Prelude.{◌≡◌, ℕ, ◌<◌, ◌^◌, Some}
use Rattle.engine_text.specs.Id.{id_of}
use Rattle.engine_text.specs.declared.container.Container.{Container}
use Rattle.machine_model.specs.State.{State, container_numbered}
use Rattle.machine_model.specs.Chain.{Effect, change, with_container}
use Rattle.machine_model.specs.Due.{time_out}

-- Its id is that of its number.
abbrev pub HasId : ℕ → State → Type 0
HasId n s = (c : Container) → container_numbered n s ≡ Some c → c.id ≡ id_of s.seed n

-- Its restarts can be counted.
abbrev pub CanRestart : ℕ → State → Type 0
CanRestart n s = (c : Container) → container_numbered n s ≡ Some c → c.life.restarts < 2 ^ 63

-- The removals' tickets of the container are answered.
abbrev pub timed_out_at : ℕ → State → Effect
timed_out_at n = with_container n (λ c. change (time_out c))
