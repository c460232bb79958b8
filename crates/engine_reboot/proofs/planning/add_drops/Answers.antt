use Rattle.std.proofs.Common.{refl, ap, sym, ◌∙◌, List, ◌++◌}
use Rattle.std.specs.Prelude.{map}
use Rattle.container_machine.specs.Listing.{tickets_left}
use Rattle.engine_reboot.specs.declared.planning.Planned.{Planned}
use Rattle.engine_reboot.proofs.PlanLemmas.{drop_pair, drops_pairs, goes_on, ends}
use Rattle.engine_reboot.proofs.planning.add_drops.Goals as goal

pub tickets-init : goal.tickets-init
tickets-init c = record {
  iterator = (tt, tt);
  whole = ap (λ (l : List Planned). c.args.plan.now.items ++ l)
      (drops_pairs c.args.machine.now.memory.state.tickets ∙ ap (map drop_pair) (sym (ap tickets_left c.into_iter-ticket-iterator.ensures.into_iter_gives ∙ c.tickets-ticket-items.ensures)));
}

pub tickets-preserved : goal.tickets-preserved
tickets-preserved c = record {
  iterator = (tt, tt);
  whole = goes_on (map drop_pair) (λ x xs. refl) _ _ _ _ _ _ c.tickets.invariant.whole c.in-Some.ensures.steps c.in_ok-add.ensures;
}

pub returns : goal.returns
returns c = ends (map drop_pair) refl _ _ _ c.tickets.invariant.whole c.in-None.ensures.steps.0
