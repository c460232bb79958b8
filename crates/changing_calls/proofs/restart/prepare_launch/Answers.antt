use Rattle.std.proofs.Common.{refl, ap}
use Rattle.engine_text.specs.declared.reply.Reply.TheVariants.{Answer}
use Rattle.container_table.specs.Logs.{container_in}
use Rattle.changing_calls.proofs.RestartLemmas.{makes_restart}
use Rattle.changing_calls.proofs.restart.prepare_launch.Goals as goal

pub returns : goal.returns
returns c = makes_restart _ c.args.moment c.args.tables.now.state (container_in c.args.h.now) c.args.script c.new-events.result.items
    c.requires.stands c.requires.named refl refl (ap (λ b. Answer 204 b) c.new-body.ensures) c.new-events.ensures.items c.in_ok-tell_again.ensures
