use Rattle.std.proofs.Common.{refl}
use Rattle.machine_model.specs.Calls.Attach.{attach_spec}
use Rattle.container_table.specs.Logs.{container_in}
use Rattle.reading_calls.proofs.AttachLemmas.{makes_attach}
use Rattle.reading_calls.proofs.attach.prepare.Goals as goal

pub returns : goal.returns
returns c = makes_attach _ c.args.moment c.args.tables.now.state (container_in c.args.h.now) c.attach_spec-spec.result (attach_spec c.args.ask.now (container_in c.args.h.now)) c.new-events.result.items c.in_ok-event.event
    c.requires.stands refl refl refl c.attach_spec-spec.ensures c.new-events.ensures.items c.in_ok-add.ensures c.in_ok-event.ensures
