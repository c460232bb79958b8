use Rattle.std.proofs.Common.{◌≡◌, ◌∷◌, ◌++◌, [], ◌∙◌, sym, subst, ap, arith}
use Rattle.container_table.specs.Rows.{joined, AreRows}
use Rattle.container_table.proofs.RowsLemmas.{rows_more}
use Rattle.container_table.proofs.rows.add_rows.Goals as goal

pub loop-alloc-preserved : goal.loop-alloc-preserved
loop-alloc-preserved g c =
    let now : c.push_reserved.new.self.items ≡ c.loop-alloc.rows.items ++ c.in_ok-row.row ∷ [] = c.push_reserved.ensures.items ∙ ap (λ l. l ++ c.in_ok-row.row ∷ []) c.reserve.ensures.items in
    let more = rows_more c.loop-alloc.rows.items c.in_ok-row.row c.loop-alloc.invariant.rows c.in_ok-row.ensures.capacity c.in_ok-row.ensures.items in
    record {
      rows = subst (λ l. AreRows l) (sym now) more.0;
      items = ap joined now ∙ more.1 ∙ c.loop-alloc.invariant.items;
      few = omega arith;
      len = omega arith;
    }
