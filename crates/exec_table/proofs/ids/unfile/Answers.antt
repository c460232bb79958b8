use Rattle.std.proofs.Common.{◌∙◌, Ok, Err, sym, subst, eqb}
use Rattle.engine_text.specs.declared.exec.Exec.{Exec}
use Rattle.engine_text.specs.Lists.{remove_first}
use Rattle.exec_table.specs.ExecsInside.{execs_in, IsIndex}
use Rattle.exec_table.proofs.IdLemmas.{located, unfiled, none_unfiled, index_without}
use Rattle.exec_table.proofs.RowLemmas.{exec_here, no_exec}
use Rattle.exec_table.proofs.ids.unfile.Goals as goal

pub returns-in_default-clause-index : goal.returns-in_default-clause-index
returns-in_default-clause-index c =
    index_without c.args.number (execs_in c.args.rows.now.items) c.args.ids.now.items (no_exec c.args.number c.args.rows.now.items (sym c.place_of.ensures ∙ c.in_default.is)) c.requires.index

pub returns-in-Ok-clause-index : goal.returns-in-Ok-clause-index
returns-in-Ok-clause-index c =
    let rows = c.args.rows.now.items in
    let found = exec_here c.args.number rows c.in-Some.i c.at.result.now (sym c.place_of.ensures ∙ c.in-Some.is) c.at.ensures in
    let there = located rows c.at.result.now.exec.id c.args.ids.now.items (Ok c.in-Ok.place) c.requires.order c.requires.index
    c.in-Ok.ensures.bound (rw c.as_str.ensures at c.in-Ok.ensures.place) in
    subst (λ ids. IsIndex (remove_first (λ (y : Exec). eqb y.number c.args.number) (execs_in rows)) ids) (sym c.remove.ensures.items)
    (unfiled rows c.args.number c.at.result.now.exec c.args.ids.now.items c.in-Ok.place c.requires.order c.requires.index found there)

pub returns-in_default-locate-clause-index : goal.returns-in_default-locate-clause-index
returns-in_default-locate-clause-index c =
    let rows = c.args.rows.now.items in
    let found = exec_here c.args.number rows c.in-Some.i c.at.result.now (sym c.place_of.ensures ∙ c.in-Some.is) c.at.ensures in
    let there = located rows c.at.result.now.exec.id c.args.ids.now.items (Err c.in_default-locate.field-0) c.requires.order c.requires.index
    c.in_default-locate.ensures.bound (rw c.as_str.ensures at c.in_default-locate.ensures.place) in
    absurd (none_unfiled rows c.args.number c.at.result.now.exec c.in_default-locate.field-0 found there)
