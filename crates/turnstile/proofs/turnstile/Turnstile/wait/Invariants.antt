use Rattle.std.proofs.Common.{◌≡◌, ℕ, ◌≤◌}
use Rattle.turnstile.specs.Views.{waited}
use Rattle.turnstile.specs.Turns.{IsPass, IsSame}
use Rattle.turnstile.proofs.turnstile.Turnstile.wait.Given as goal

abbrev pub invariant-loop : goal.invariant-loop
invariant-loop g l = IsPass l.fn.self.table.shared.table_id l.pass × IsSame l.initial.pass l.pass × ((f : ℕ) × (l.initial.pass.me.0.found_busy ≤ f) × (l.pass.me.0 ≡ waited l.initial.pass.me.0 f))
