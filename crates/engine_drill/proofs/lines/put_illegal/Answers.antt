use Rattle.std.proofs.Common.{codes}
use Rattle.std.specs.Prelude.{string_bytes}
use Rattle.drill_model.specs.Report.{number_line, text_line}
use Rattle.engine_drill.proofs.LineLemmas.{added_3}
use Rattle.engine_drill.proofs.lines.put_illegal.Goals as goal

pub returns : goal.returns
returns c =
    added_3 (string_bytes c.args.out.now) (number_line (codes "illegal line") c.args.line) (text_line (codes "kept") c.args.kept.now) (text_line (codes "found") c.args.found.now)
    (string_bytes c.put_number.new.out) (string_bytes c.put_text.new.out) (string_bytes c.put_text-2.new.out)
    c.in_ok-put_number.ensures c.in_ok-put_text.ensures c.in_ok-put_text-2.ensures
