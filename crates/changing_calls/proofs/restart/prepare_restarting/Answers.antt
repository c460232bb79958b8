use Rattle.std.proofs.Common.{refl, ap}
use Rattle.engine_text.specs.declared.reply.Reply.TheVariants.{Answer}
use Rattle.container_table.specs.Logs.{container_in}
use Rattle.changing_calls.proofs.RestartLemmas.{makes_restarting}
use Rattle.changing_calls.proofs.restart.prepare_restarting.Goals as goal

pub returns : goal.returns
returns c = makes_restarting _ c.args.moment c.args.tables.now.state (container_in c.args.h.now) c.in_ok-script.script c.new-events.result.items
    c.requires.stands c.in_ok-script.ensures refl refl (ap (λ b. Answer 204 b) c.new-body.ensures) c.new-events.ensures.items c.in_ok-tell_again.ensures
