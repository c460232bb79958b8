use Rattle.std.proofs.Common.{◌≡◌, ◌++◌}
use Rattle.container_machine.specs.Listing.{containers_left}
use Rattle.engine_reboot.specs.Planning.{starts}
use Rattle.engine_reboot.proofs.planning.add_starts.Given as goal

-- with those of the containers that are left, the plan is whole
abbrev pub invariant-containers : goal.invariant-containers
invariant-containers l = record {
  iterator : goal.iterator-containers.can_next l.held-iterator × goal.iterator-containers.is_finite l.held-iterator;
  whole : l.fn.plan.items ++ starts l.machine.memory.state.containers ≡ l.plan.items ++ starts (containers_left l.held-iterator);
}
