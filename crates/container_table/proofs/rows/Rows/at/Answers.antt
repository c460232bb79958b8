use Rattle.std.proofs.Common.{◌<◌, ◌∙◌, length, sym, subst, ap, arith}
use Rattle.std.specs.Prelude.{◌%◌, slice_index_or}
use Rattle.container_table.specs.Rows.{joined}
use Rattle.container_table.proofs.RowsLemmas.{row_there, item_there}
use Rattle.container_table.proofs.rows.Rows.at.Goals as goal

pub index-requires : goal.index-requires
index-requires g c =
    let rows = c.self.inside.rows.items in
    let within : c.args.i < length (joined rows) = subst (λ l. c.args.i < length l) (sym (ap (λ l. l.items) c.self.view_is)) c.requires in
    omega (arith, row_there rows c.args.i c.self.invariant.rows within, c.self.inside.rows.ok)

pub index-requires-2 : goal.index-requires-2
index-requires-2 g c =
    let rows = c.self.inside.rows.items in
    let within : c.args.i < length (joined rows) = subst (λ l. c.args.i < length l) (sym (ap (λ l. l.items) c.self.view_is)) c.requires in
    let there = item_there rows c.args.i c.index.result.now c.self.invariant.rows within in
    let low : c.args.i % 2048 < length c.index.result.now.items = subst (λ q. c.args.i % 2048 < length q.items) (sym c.index.ensures) there.0 in
    omega (arith, low, c.index.result.now.ok)

pub returns : goal.returns
returns g c =
    let rows = c.self.inside.rows.items in
    let is = ap (λ l. l.items) c.self.view_is in
    let within : c.args.i < length (joined rows) = subst (λ l. c.args.i < length l) (sym is) c.requires in
    let there = item_there rows c.args.i c.index.result.now c.self.invariant.rows within in
    let d = c.index-2.result.now in
    c.index-2.ensures ∙ ap (λ q. slice_index_or q.items (c.args.i % 2048) d) c.index.ensures ∙ sym (there.1 d) ∙ ap (λ l. slice_index_or l c.args.i d) is
