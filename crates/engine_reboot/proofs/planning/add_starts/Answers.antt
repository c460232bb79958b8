use Rattle.std.proofs.Common.{refl, ap, ◌∙◌}
use Rattle.container_machine.specs.Listing.{containers_left, seen_container}
use Rattle.engine_reboot.specs.Planning.{starts}
use Rattle.engine_reboot.proofs.PlanLemmas.{begins, goes_on, ends, starts_first}
use Rattle.engine_reboot.proofs.planning.add_starts.Goals as goal

pub containers-init : goal.containers-init
containers-init c = record { iterator = (tt, tt); whole = begins starts _ _ _ (ap containers_left c.into_iter-held-iterator.ensures.into_iter_gives ∙ c.containers-held-items.ensures) }

pub containers-preserved : goal.containers-preserved
containers-preserved c = record {
  iterator = (tt, tt);
  whole = goes_on starts starts_first _ _ _ (seen_container c.in-Some.held) _ _ c.containers.invariant.whole c.in-Some.ensures.steps c.in_ok-add_start.ensures;
}

pub returns : goal.returns
returns c = ends starts refl _ _ _ c.containers.invariant.whole c.in-None.ensures.steps.0
