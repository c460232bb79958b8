use Rattle.std.proofs.Common.{◌∷◌, ◌++◌, [], subst, sym, ◌∙◌}
use Rattle.std.specs.List.Sorted.{IsNonDecreasing}
use Rattle.machine_tables.proofs.MomentPlaceLemmas.{few_last, in_order_next}
use Rattle.machine_tables.proofs.moments.Moments.push.Goals as goal

pub invariant_of-self : goal.invariant_of-self
invariant_of-self c = record {
  few = few_last 65536 (c.self.inside.items.items ++ c.args.moment ∷ []) c.push_last.new.items.items c.push_last.ensures.items;
  ordered = λ e. subst IsNonDecreasing (sym c.push_last.ensures.items)
      (in_order_next 65536 c.self.inside.items.items c.args.moment c.self.inside.in_order c.self.invariant.ordered
      (sym c.stays_in_order-self-inside.ensures ∙ e));
}
