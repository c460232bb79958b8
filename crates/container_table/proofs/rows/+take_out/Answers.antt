use Rattle.container_table.proofs.RowsLemmas.{out_behind}
use Rattle.container_table.proofs.rows.+take_out.Goals as goal

pub returns-then-i-ge-ROW-clause-items : goal.returns-then-i-ge-ROW-clause-items
returns-then-i-ge-ROW-clause-items g t c =
    out_behind c.in_ok-rows.row.now c.args.rows.now c.in_ok-rows.rest.now c.take_out.new.rows c.args.i c.in_ok-rows.ensures.cases.0 c.requires.rows c.if-i-ge-ROW.true c.requires.place c.take_out.ensures.items
