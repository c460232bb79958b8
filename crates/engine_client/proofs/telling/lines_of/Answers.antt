use Rattle.engine_client.proofs.TellLemmas.{far_next, far_end}
use Rattle.engine_client.proofs.telling.lines_of.Goals as goal

pub events-preserved : goal.events-preserved
events-preserved c =
    far_next c.args.checked.now c.args.end c.args.events.now c.events.event-index c.event-item.result c.as_str-id.result.now c.events.watch c.see.new.watch c.events.lines c.see.new.lines
    c.events.attributes.now c.latest-attributes.result.now c.events-test.true c.event-item.is c.as_str-id.ensures c.events.invariant c.in_ok-see.ensures c.latest-attributes.ensures

pub returns : goal.returns
returns c =
    far_end c.args.checked.now c.args.end c.args.events.now c.events.event-index c.as_str-id.result.now c.events.watch c.tell.new.watch c.events.lines c.tell.new.lines c.push.new.self
    c.events.attributes.now c.in_ok-last_line.field-0 c.events-test.false c.as_str-id.ensures c.events.invariant c.in_ok-tell.ensures c.in_ok-last_line.ensures c.in_ok-push.ensures.ok
