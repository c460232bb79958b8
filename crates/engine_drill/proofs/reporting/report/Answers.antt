use Rattle.std.proofs.Common.{◌++◌, ℕ, ap, ◌∙◌, codes}
use Rattle.std.specs.Prelude.{string_bytes}
use Rattle.drill_model.specs.Report.{number_line, status_lines, verdict_lines}
use Rattle.engine_drill.proofs.LineLemmas.{added_5}
use Rattle.engine_drill.proofs.reporting.report.Goals as goal

pub returns : goal.returns
returns c =
    let first = c.in_ok-put_number.ensures ∙ ap (λ (n : ℕ). string_bytes c.new-out.result ++ number_line (codes "requests") n) c.from.ensures in
    added_5 (number_line (codes "requests") c.args.requests) (status_lines 0 c.args.counts.now) (number_line (codes "events") c.args.events)
    (number_line (codes "containers") c.args.containers) (verdict_lines c.args.verdict.now)
    (string_bytes c.new-out.result) (string_bytes c.put_number.new.out) (string_bytes c.put_statuses.new.out) (string_bytes c.put_number-2.new.out)
    (string_bytes c.put_number-3.new.out) (string_bytes c.put_verdict.new.out)
    c.new-out.ensures.bytes first c.in_ok-put_statuses.ensures c.in_ok-put_number-2.ensures c.in_ok-put_number-3.ensures c.in_ok-put_verdict.ensures
