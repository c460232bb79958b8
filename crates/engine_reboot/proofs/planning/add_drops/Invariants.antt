use Rattle.std.proofs.Common.{◌≡◌, ◌++◌}
use Rattle.std.specs.Prelude.{map}
use Rattle.container_machine.specs.Listing.{tickets_left}
use Rattle.engine_reboot.specs.Planning.{drops}
use Rattle.engine_reboot.proofs.PlanLemmas.{drop_pair}
use Rattle.engine_reboot.proofs.planning.add_drops.Given as goal

-- with those of the tickets that are left, the plan is whole
abbrev pub invariant-tickets : goal.invariant-tickets
invariant-tickets l = record {
  iterator : goal.iterator-tickets.can_next l.ticket-iterator × goal.iterator-tickets.is_finite l.ticket-iterator;
  whole : l.fn.plan.items ++ drops l.machine.memory.state.tickets ≡ l.plan.items ++ map drop_pair (tickets_left l.ticket-iterator);
}
