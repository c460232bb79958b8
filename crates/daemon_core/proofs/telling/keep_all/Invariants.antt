use Rattle.std.proofs.Common.{◌≡◌, ◌+◌, ◌++◌, List, length}
use Rattle.std.specs.Vec.Iter.{into_iter_items}
use Rattle.engine_text.specs.declared.event.Event.{Event as AnEvent}
use Rattle.event_ring.specs.Ring.{ring_of}
use Rattle.daemon_core.proofs.telling.keep_all.Given as goal

abbrev pub invariant-loop-line : goal.invariant-loop-line
invariant-loop-line l = record {
  iterator : (goal.iterator-loop-line).can_next l.line-iterator × (goal.iterator-loop-line).is_finite l.line-iterator;
  left : l.yielded ++ into_iter_items l.line-iterator ≡ l.fn.lines.items;
  count : l.ring.count ≡ l.fn.ring.count + length l.yielded;
  told : (all : List AnEvent) → l.fn.ring ≡ ring_of all → l.ring ≡ ring_of (all ++ l.yielded);
}
