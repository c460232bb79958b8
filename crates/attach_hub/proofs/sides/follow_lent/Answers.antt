use Rattle.std.proofs.Common.{rules, subst, sym, false}
use Rattle.engine_text.specs.declared.reply.Reply.TheVariants.{LogStream}
use Rattle.attach_hub.specs.Following.{FollowsSince}
use Rattle.attach_hub.proofs.ViewLemmas.{unnamed}
use Rattle.attach_hub.proofs.sides.follow_lent.Goals as goal

pub returns : goal.returns
returns g c =
    let follows = subst (FollowsSince (LogStream c.args.spec.now) false c.follow_since-followed.result _) (sym c.conn.view_is) c.follow_since-followed.ensures.follows in
    let lent = unnamed c.args.number c.args.spec.now c.follow_since-followed.result _ _ _ _ _ _ follows in
    search (rules, lent)
