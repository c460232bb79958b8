use Rattle.std.proofs.Common.{List, subst}
use Rattle.engine_text.specs.declared.event.Event.{Event}
use Rattle.engine_client.proofs.EventLemmas.{lines_by, lines_wrong, rising_as}
use Rattle.client_model.specs.Streams.{events_in}
use Rattle.engine_client.proofs.telling.lines_up_to.Goals as goal

pub returns-in-Ok : goal.returns-in-Ok
returns-in-Ok c =
    lines_by c.args.checked.now c.args.end c.args.body.now c.in-Ok.events.items c.lines_if_rising.result c.in-Ok.ensures
    (rising_as c.args.checked.now c.args.end _ c.in-Ok.events.items c.lines_if_rising.result c.deref.ensures.value c.lines_if_rising.ensures)

pub returns-in-Err : goal.returns-in-Err
returns-in-Err c = lines_wrong c.in-Err.fault c.args.checked.now c.args.end (events_in c.args.body.now) c.in-Err.ensures
