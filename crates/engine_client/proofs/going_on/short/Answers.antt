use Rattle.std.proofs.Common.{ap, ◌∙◌}
use Rattle.client_model.specs.Plans.{cut_fault}
use Rattle.engine_client.proofs.StepLemmas.{short_rows_at, short_health_at, short_at}
use Rattle.engine_client.proofs.going_on.short.Goals as goal

pub returns-in-PrintsRows : goal.returns-in-PrintsRows
returns-in-PrintsRows c = short_rows_at _ c.args.first c.args.body.now.items _ c.in-PrintsRows.is c.short_events.ensures.watch

pub returns-in-PrintsHealth : goal.returns-in-PrintsHealth
returns-in-PrintsHealth c =
    short_health_at _ c.in-PrintsHealth.until c.in-PrintsHealth.checked c.args.first c.args.body.now.items _ c.in-PrintsHealth.is
    (c.short_events-in-PrintsHealth.ensures.health c.in-PrintsHealth.until c.in-PrintsHealth.checked)

pub returns-in_default : goal.returns-in_default
returns-in_default c = short_at _ c.args.first c.args.body.now.items _ c.in_default.not-PrintsRows c.in_default.not-PrintsHealth (c.cut_fault.ensures ∙ ap cut_fault c.deref.ensures.value)
