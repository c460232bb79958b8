use Rattle.std.proofs.Common.{List, sym, ap, subst, ◌∙◌, map}
use Rattle.container_table.specs.Order.{AreApart}
use Rattle.engine_text.specs.declared.exec.Exec.{Exec}
use Rattle.exec_table.specs.ExecsInside.{execs_in, is_id_before, owned_in, sorted_by_id}
use Rattle.exec_table.specs.declared.row.Row.{Row}
use Rattle.exec_table.proofs.OrderLemmas.{sorted_none}
use Rattle.exec_table.proofs.execs.Execs.new.Goals as goal

pub invariant_of-result : goal.invariant_of-result
invariant_of-result c = record {
  order = sorted_none _ c.new.ensures.items;
  ids = record {
    apart = subst (λ (rows : List Row). AreApart is_id_before (execs_in rows)) (sym c.new.ensures.items) tt;
    is = c.new-2.ensures.items ∙ ap (λ (rows : List Row). map (λ (x : Exec). x.number) (sorted_by_id (execs_in rows))) (sym c.new.ensures.items);
  };
  owned = c.new-3.ensures.items ∙ ap (λ (rows : List Row). owned_in (execs_in rows)) (sym c.new.ensures.items);
}
