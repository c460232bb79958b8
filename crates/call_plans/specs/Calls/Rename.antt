-- own: what a rename does once its container is found.
use Rattle.std.specs.Prelude.{ℕ, List}
use Rattle.machine_model.specs.State.{State}
use Rattle.machine_model.specs.Chain.{Effect, with_container}
use Rattle.machine_model.specs.Calls.Rename.{rename}

-- The container of that number has the name.
abbrev pub rename_effect : ℕ → List ℕ → State → Effect
rename_effect n name = with_container n (rename name)
