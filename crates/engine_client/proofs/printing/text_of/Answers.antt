use Rattle.std.proofs.Common.{◌∙◌}
use Rattle.engine_client.proofs.PrintLemmas.{line_more, lines_all}
use Rattle.engine_client.proofs.printing.text_of.Goals as goal

pub lines-init : goal.lines-init
lines-init c = c.new-text.ensures.items

pub lines-preserved : goal.lines-preserved
lines-preserved c =
    c.in_ok-add_line.ensures
    ∙ line_more c.args.lines.now c.lines.line-index c.line-item.result c.as_slice.result.now c.lines.text.items c.lines-test.true c.line-item.is c.as_slice.ensures c.lines.invariant

pub returns : goal.returns
returns c = lines_all c.args.lines.now c.lines.line-index c.lines.text.items c.lines-test.false c.lines.invariant
