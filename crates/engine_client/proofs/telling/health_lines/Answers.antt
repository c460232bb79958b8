use Rattle.std.proofs.Common.{sym, ap, ◌∙◌}
use Rattle.api_routes.specs.Keys.{read_time}
use Rattle.engine_client.proofs.EventLemmas.{timed_lines, untimed, no_end}
use Rattle.engine_client.proofs.telling.health_lines.Goals as goal

pub returns-in_default : goal.returns-in_default
returns-in_default c = no_end c.args.until.now c.args.checked.now c.args.body.now (sym (ap read_time c.as_str.ensures) ∙ sym c.in_default.ensures.value)

pub returns-then-not-is_timed : goal.returns-then-not-is_timed
returns-then-not-is_timed c =
    untimed c.args.until.now c.args.checked.now c.args.body.now c.in-Some.end (sym (ap read_time c.as_str.ensures) ∙ sym c.in-Some.ensures.value)
    (sym c.is_timed.ensures ∙ c.if-not-is_timed.true)

pub returns : goal.returns
returns c =
    timed_lines c.args.until.now c.args.checked.now c.args.body.now c.in-Some.end c.lines_up_to.result (sym (ap read_time c.as_str.ensures) ∙ sym c.in-Some.ensures.value)
    (sym c.is_timed.ensures ∙ c.if-not-is_timed.false) c.lines_up_to.ensures
