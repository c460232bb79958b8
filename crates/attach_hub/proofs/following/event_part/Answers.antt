use Rattle.std.proofs.Common.{refl}
use Rattle.engine_text.specs.declared.reply.Reply.TheVariants.{EventStream}
use Rattle.attach_hub.proofs.PartLemmas.{viewed}
use Rattle.attach_hub.proofs.following.event_part.Goals as goal

pub returns : goal.returns
returns g c = λ first. viewed (EventStream first c.args.until c.args.filter.now) c.args.place c.events_from.result _ _ _ _ _ c.conn.view_is (refl, c.now-handed.result, c.now-handed.ensures, c.events_from.ensures)
