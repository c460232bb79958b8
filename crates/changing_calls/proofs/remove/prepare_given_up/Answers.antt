use Rattle.std.proofs.Common.{refl, ap}
use Rattle.engine_text.specs.declared.reply.Reply.TheVariants.{Answer}
use Rattle.container_table.specs.Logs.{container_in}
use Rattle.changing_calls.proofs.RemoveLemmas.{makes_given_up}
use Rattle.changing_calls.proofs.remove.prepare_given_up.Goals as goal

pub returns : goal.returns
returns c = makes_given_up _ c.args.moment c.args.tables.now.state (container_in c.args.h.now) c.in_ok-brought.brought c.new-events.result.items c.in_ok-event.event
    c.requires refl refl c.in_ok-brought.ensures (ap (λ b. Answer 204 b) c.new-body.ensures) c.new-events.ensures.items c.in_ok-add.ensures c.in_ok-event.ensures
