use Rattle.std.proofs.Common.{sym, ◌∙◌}
use Rattle.client_model.specs.Commands.Health.{do_rise}
use Rattle.engine_client.proofs.EventLemmas.{rising_lines, no_lines}
use Rattle.engine_client.proofs.telling.lines_if_rising.Goals as goal

pub returns-then-not-do_rise : goal.returns-then-not-do_rise
returns-then-not-do_rise c =
    no_lines c.args.checked.now c.args.end c.args.events.now (do_rise c.args.end 0 c.args.events.now) (sym c.do_rise.ensures ∙ c.if-not-do_rise.true)

pub returns-in-Ok : goal.returns-in-Ok
returns-in-Ok c =
    rising_lines c.args.checked.now c.args.end c.args.events.now (do_rise c.args.end 0 c.args.events.now) c.in-Ok.lines (sym c.do_rise.ensures ∙ c.if-not-do_rise.false) c.in-Ok.ensures
