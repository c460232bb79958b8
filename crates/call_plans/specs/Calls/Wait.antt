-- own: what a wait does once its container is found.
use Rattle.std.specs.Prelude.{ℕ}
use Rattle.engine_text.specs.declared.call.Until.{Until}
use Rattle.engine_text.specs.declared.ticket.Asked.TheVariants as Asked
use Rattle.machine_model.specs.State.{State}
use Rattle.machine_model.specs.Chain.{Effect, and_then, change, still}
use Rattle.machine_model.specs.Tickets.{begun}

-- A ticket of the connection.
abbrev pub wait_effect : ℕ → ℕ → Until → State → Effect
wait_effect connection n until = and_then (change (begun connection n (Asked.Wait until))) still
