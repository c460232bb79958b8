use Rattle.std.proofs.Common.{refl, ap}
use Rattle.engine_text.specs.declared.reply.Reply.TheVariants.{Answer}
use Rattle.container_table.specs.Logs.{container_in}
use Rattle.call_plans.proofs.MakeLemmas.{makes_kill}
use Rattle.changing_calls.proofs.kill.prepare_running.Goals as goal

pub returns : goal.returns
returns c = makes_kill _ c.args.moment c.args.tables.now.state (container_in c.args.h.now) c.args.sent c.is_final-last.result c.signal_code-code.result c.in_ok-brought.brought
    c.new-events.result.items c.add.new.out.items c.in_ok-event.event
    c.requires.kept c.requires.stands c.requires.signal c.is_final-last.ensures c.signal_code-code.ensures
    refl refl c.in_ok-brought.ensures (ap (λ b. Answer 204 b) c.new-body.ensures) c.new-events.ensures.items c.in_ok-add.ensures c.in_ok-event.ensures c.in_ok-tell_delivered.ensures
