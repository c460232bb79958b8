use Rattle.std.proofs.Common.{◌≡◌}
use Rattle.turnstile.specs.Turns.{IsPass}
use Rattle.base_tests.proofs.tests.turns.turns.Given as goal

abbrev pub invariant-loop : goal.invariant-loop
invariant-loop g l = IsPass l.fn.lock.table.shared.table_id l.pass × (l.fn.number ≡ l.pass.me.0.number) × (l.job.number ≡ l.fn.number)
