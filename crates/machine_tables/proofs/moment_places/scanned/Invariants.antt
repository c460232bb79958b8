use Rattle.std.proofs.Common.{◌≡◌, ℕ, ◌<◌, false, get_or, nat_le}
use Rattle.machine_tables.proofs.moment_places.scanned.Given as goal

abbrev pub invariant-places : goal.invariant-places
invariant-places l = (k d : ℕ) → k < l.i → nat_le l.moment (get_or l.moments.items k d) ≡ false
