use Rattle.container_table.proofs.RowsLemmas.{put_behind}
use Rattle.container_table.proofs.rows.+put.Goals as goal

pub returns-then-i-ge-ROW-clause-items : goal.returns-then-i-ge-ROW-clause-items
returns-then-i-ge-ROW-clause-items g t c =
    put_behind c.in-Some.row.now c.args.rows.now c.in-Some.rest.now c.put.new.rows c.args.i c.args.item c.in-Some.ensures.cases.0 c.requires.rows c.if-i-ge-ROW.true c.requires.place c.put.ensures.items
