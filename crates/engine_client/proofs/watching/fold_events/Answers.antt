use Rattle.std.proofs.Common.{sym, ◌∙◌}
use Rattle.engine_client.proofs.WatchLemmas.{folds_first, folds_more, folds_fail, some_text, no_line}
use Rattle.engine_client.proofs.watching.fold_events.Goals as goal

pub lines-init : goal.lines-init
lines-init c = folds_first c.new-rows.result c.args.body.now c.new-rows.ensures

pub lines-preserved : goal.lines-preserved
lines-preserved c =
    folds_more c.lines.rows c.fold_line.new.rows c.lines.rest.now c.in-Some.line.now c.in-Some.behind.now c.args.body.now c.in-Ok.field-0
    c.lines.invariant c.in-Some.ensures.line c.in-Ok.ensures

pub returns-in_default : goal.returns-in_default
returns-in_default c = no_line c.lines.rows c.lines.rest.now c.args.body.now c.lines.invariant (some_text c.lines.rest.now (sym c.is_empty.ensures ∙ c.lines-test.true))
    c.in_default.ensures.none

pub returns-in-Err : goal.returns-in-Err
returns-in-Err c =
    folds_fail c.lines.rows c.fold_line.new.rows c.lines.rest.now c.in-Some.line.now c.in-Some.behind.now c.args.body.now c.in-Err.fault
    c.lines.invariant c.in-Some.ensures.line c.in-Err.ensures
