-- What serving a connection tells, by whichever clock.
use Rattle.std.proofs.Common.{ℕ, Option, Some, None}
use Rattle.std.specs.Prelude.{IsFalse}
use Rattle.engine_ports.specs.Door.{Outside}
use Rattle.machine_model.specs.History.{Extends}
use Rattle.session_model.specs.declared.ending.Ending.{Ending}
use Rattle.session_model.specs.Pass.{PassView, Stays, KeepsInput}
use Rattle.daemon_shared.specs.Running.{ServesBy}

-- of the passes alone
pub record Passes (k : ℕ) (p q : PassView) : Type 0 where
  pub extends : Extends p.seen q.seen
  pub same : Stays (record p { joined_calls = q.joined_calls; pair = q.pair }) q
  pub input : IsFalse q.alone → KeepsInput k q

pub passes : (steps : Option (ℕ × ℕ)) (k : ℕ) (e : Ending) (p q : PassView) (o o' : Outside) → ServesBy steps k e p q o o' → Passes k p q
passes None k e p q o o' s = record { extends = s.goes.extends; same = s.goes.same; input = s.goes.input }
passes (Some x) k e p q o o' s = record { extends = s.1.goes.extends; same = s.1.goes.same; input = s.1.goes.input }
