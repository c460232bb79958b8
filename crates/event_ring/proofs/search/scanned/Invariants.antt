use Rattle.std.proofs.Common.{◌≡◌, ℕ, ◌<◌, false, get_or}
use Rattle.engine_text.specs.declared.event.Event.{Event}
use Rattle.event_ring.specs.Ring.{is_since}
use Rattle.event_ring.proofs.search.scanned.Given as goal

abbrev pub invariant-places : goal.invariant-places
invariant-places l = (k : ℕ) (d : Event) → k < l.i → is_since l.moment (get_or l.kept.items k d) ≡ false
