use Rattle.std.proofs.Common.{List, sym, subst}
use Rattle.engine_text.specs.declared.step.DueAction.{DueAction}
use Rattle.container_table.specs.DuesInside.{IsUnreversed}
use Rattle.container_table.proofs.dues.Dues.new.Goals as goal

pub invariant_of-result : goal.invariant_of-result
invariant_of-result c = subst (λ (ds : List DueAction). IsUnreversed ds) (sym c.new.ensures.items) tt
