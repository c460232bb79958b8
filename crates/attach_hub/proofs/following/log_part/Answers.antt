use Rattle.std.proofs.Common.{refl}
use Rattle.engine_text.specs.declared.reply.Reply.TheVariants.{LogStream}
use Rattle.attach_hub.proofs.PartLemmas.{viewed}
use Rattle.attach_hub.proofs.following.log_part.Goals as goal

pub returns : goal.returns
returns g c = viewed (LogStream c.args.spec.now) c.args.place c.log_from.result _ _ _ _ _ c.conn.view_is (refl, c.now-handed.result, c.now-handed.ensures, c.log_from.ensures)
