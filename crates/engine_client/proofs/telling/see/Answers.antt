use Rattle.engine_client.proofs.TellLemmas.{may_come, sees_if}
use Rattle.engine_client.proofs.telling.see.Goals as goal

pub event-requires : goal.event-requires
event-requires c =
    may_come c.args.id.now c.args.attributes.now c.args.event.now.moment c.args.watch.now c.tell_before.new.watch c.args.lines.now c.tell_before.new.lines c.requires.follows c.in_ok-tell_before.ensures

pub returns : goal.returns
returns c =
    sees_if c.event.result c.args.id.now c.args.attributes.now c.args.event.now c.args.watch.now c.tell_before.new.watch c.event.new.self c.args.lines.now c.tell_before.new.lines
    c.in_ok-tell_before.ensures c.event.ensures.ok c.event.ensures.told
