-- What the end of a pending restart tells: nothing.
use Rattle.std.proofs.Common.{ℕ, refl}
use Rattle.machine_model.specs.State.{clear_timer}
use Rattle.machine_model.specs.Effects.Cancel.{cancelled, cancel_restart}
use Rattle.machine_model.proofs.Fold.TellLemmas.{Tells, tells_then, tells_apart}
use Rattle.machine_model.proofs.Effects.LaunchLemmas.{Awake}
use Rattle.machine_model.proofs.Effects.EndMainLemmas.{awake_renew}
use Rattle.container_table.specs.declared.rank.Rank.{Rank}

pub tells_cancel : (n : ℕ) → Tells n Awake (cancel_restart n) Awake
tells_cancel n = tells_then (tells_apart (clear_timer Rank.RestartTimer n) (λ s. refl) (λ s fit. fit)) (awake_renew cancelled (λ l h. h) (λ c. refl) (λ l. refl))
