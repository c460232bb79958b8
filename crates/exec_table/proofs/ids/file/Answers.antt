use Rattle.std.proofs.Common.{Err, Ok}
use Rattle.exec_table.specs.ExecsInside.{execs_in}
use Rattle.exec_table.proofs.IdLemmas.{IsLocated, located, filed, none_fresh}
use Rattle.exec_table.proofs.ids.file.Goals as goal

pub returns-in-Err-clause-index : goal.returns-in-Err-clause-index
returns-in-Err-clause-index c =
    let there : IsLocated (execs_in c.args.rows.now.items) c.args.exec.now.id (Err c.in-Err.i) =
    located c.args.rows.now.items c.args.exec.now.id c.args.ids.now.items (Err c.in-Err.i) c.requires.order c.requires.index
    c.in-Err.ensures.bound (rw c.as_str.ensures at c.in-Err.ensures.place) in
    filed (execs_in c.args.rows.now.items) c.args.exec.now c.args.ids.now.items c.insert.new.self.items c.in-Err.i c.requires.index c.requires.fresh there c.insert.ensures.items

pub returns-in_default-clause-index : goal.returns-in_default-clause-index
returns-in_default-clause-index c =
    absurd (none_fresh (execs_in c.args.rows.now.items) c.args.exec.now.id c.in_default.field-0 c.requires.fresh
    (located c.args.rows.now.items c.args.exec.now.id c.args.ids.now.items (Ok c.in_default.field-0) c.requires.order c.requires.index
    c.in_default.ensures.bound (rw c.as_str.ensures at c.in_default.ensures.place)))
