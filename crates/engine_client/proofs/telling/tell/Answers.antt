use Rattle.std.proofs.Common.{Option, subst}
use Rattle.health_watch.specs.Watching.{NextSays}
use Rattle.health_watch.specs.declared.health.Change.{Change}
use Rattle.engine_client.proofs.TellLemmas.{told_more}
use Rattle.engine_client.proofs.telling.tell.Goals as goal

pub changes-preserved : goal.changes-preserved
changes-preserved c =
    told_more c.args.id.now c.args.attributes.now c.args.until c.args.watch.now c.changes.watch c.next.new.self c.args.lines.now c.changes.lines c.push.new.self
    c.in-Some.change c.in_ok-change_line.field-0 c.changes.invariant
    (subst (λ (o : Option Change). NextSays c.args.until c.changes.watch o c.next.new.self) c.in-Some.is c.in_ok-change.ensures.ok)
    c.in_ok-change_line.ensures c.in_ok-push.ensures.ok
