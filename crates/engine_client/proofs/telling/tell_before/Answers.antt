use Rattle.engine_client.proofs.TellLemmas.{before_none, before_if}
use Rattle.engine_client.proofs.telling.tell_before.Goals as goal

pub returns-then-moment-eq0 : goal.returns-then-moment-eq0
returns-then-moment-eq0 c = before_none c.args.id.now c.args.attributes.now c.args.moment c.args.watch.now c.args.lines.now c.if-moment-eq0.true

pub returns : goal.returns
returns c =
    before_if c.tell.result c.args.id.now c.args.attributes.now c.args.moment c.args.watch.now c.tell.new.watch c.args.lines.now c.tell.new.lines c.if-moment-eq0.false c.tell.ensures
