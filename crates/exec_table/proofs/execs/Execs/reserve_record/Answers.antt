use Rattle.std.proofs.Common.{List, ap, sym, subst, ◌∙◌}
use Rattle.engine_text.specs.declared.exec.Exec.{Exec}
use Rattle.exec_table.specs.ExecsInside.{owned_in, IsIndex}
use Rattle.exec_table.proofs.execs.Execs.reserve_record.Goals as goal

pub invariant_of-self : goal.invariant_of-self
invariant_of-self c = record {
  order = c.reserve_record.ensures.order;
  ids = subst (λ (xs : List Exec). IsIndex xs c.self.inside.ids.items) (sym c.reserve_record.ensures.execs) c.self.invariant.ids;
  owned = c.self.invariant.owned ∙ ap owned_in (sym c.reserve_record.ensures.execs);
}
