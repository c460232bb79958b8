use Rattle.std.proofs.Common.{refl, ap}
use Rattle.engine_text.specs.declared.reply.Reply.TheVariants.{Answer}
use Rattle.container_table.specs.Logs.{container_in}
use Rattle.changing_calls.proofs.RenameLemmas.{makes_rename}
use Rattle.changing_calls.proofs.rename.prepare_free.Goals as goal

pub returns : goal.returns
returns c = makes_rename _ c.args.moment c.args.tables.now.state (container_in c.args.h.now) c.args.name c.as_str.result.now c.new-events.result.items c.in_ok-event.event
    c.requires.stands c.requires.free c.as_str.ensures refl refl (ap (λ b. Answer 204 b) c.new-body.ensures) c.new-events.ensures.items c.in_ok-add.ensures c.in_ok-event.ensures
