use Rattle.std.proofs.Common.{◌*◌, ◌<◌, ◌∙◌, length, length-set, vec_len, refl, sym, subst, ap, arith}
use Rattle.std.specs.Prelude.{◌%◌, slice_index_or}
use Rattle.container_table.specs.Rows.{joined, with_item_at}
use Rattle.container_table.proofs.RowsLemmas.{row_there, item_there, changed_there}
use Rattle.container_table.proofs.rows.Rows.at_mut.Goals as goal

pub index_mut-row-requires : goal.index_mut-row-requires
index_mut-row-requires g c =
    let rows = c.self.inside.rows.items in
    let within : c.args.i < length (joined rows) = subst (λ l. c.args.i < length l) (sym (ap (λ l. l.items) c.self.view_is)) c.requires in
    omega (arith, row_there rows c.args.i c.self.invariant.rows within, c.self.inside.rows.ok)

pub index_mut-requires : goal.index_mut-requires
index_mut-requires g c =
    let rows = c.self.inside.rows.items in
    let within : c.args.i < length (joined rows) = subst (λ l. c.args.i < length l) (sym (ap (λ l. l.items) c.self.view_is)) c.requires in
    let there = item_there rows c.args.i c.index_mut-row.result.now c.self.invariant.rows within in
    let low : c.args.i % 2048 < length c.index_mut-row.result.now.items = subst (λ q. c.args.i % 2048 < length q.items) (sym c.index_mut-row.ensures.value) there.0 in
    omega (arith, low, c.index_mut-row.result.now.ok)

pub invariant_of-self-lent : goal.invariant_of-self-lent
invariant_of-self-lent g c w =
    let rows = c.self.inside.rows.items in
    let within : c.args.i < length (joined rows) = subst (λ l. c.args.i < length l) (sym (ap (λ l. l.items) c.self.view_is)) c.requires in
    let there = changed_there rows c.args.i c.index_mut-row.result.now w c.self.invariant.rows within c.index_mut-row.ensures.value in
    record {
      rows = there.0;
      few = c.self.invariant.few;
      counted = c.self.invariant.counted ∙ sym (ap length there.1 ∙ length-set (joined rows) c.args.i w);
    }

pub returns : goal.returns
returns g c =
    let rows = c.self.inside.rows.items in
    let is = ap (λ l. l.items) c.self.view_is in
    let within : c.args.i < length (joined rows) = subst (λ l. c.args.i < length l) (sym is) c.requires in
    let here = item_there rows c.args.i c.index_mut-row.result.now c.self.invariant.rows within in
    let d = c.index_mut.result.now in (
      (refl, λ w. ap (λ l. record { items = l; places = 2048 * vec_len c.self.inside.rows }) (changed_there rows c.args.i c.index_mut-row.result.now w c.self.invariant.rows within c.index_mut-row.ensures.value).1 ∙ ap (λ l. with_item_at l c.args.i w) c.self.view_is),
      record {
        lends = tt;
        value = c.index_mut.ensures.value ∙ ap (λ q. slice_index_or q.items (c.args.i % 2048) d) c.index_mut-row.ensures.value ∙ sym (here.1 d) ∙ ap (λ l. slice_index_or l c.args.i d) is;
      },
    )
