use Rattle.std.proofs.Common.{refl, ap}
use Rattle.engine_text.specs.declared.reply.Reply.TheVariants.{Begun}
use Rattle.container_table.specs.Logs.{container_in}
use Rattle.changing_calls.proofs.RemoveLemmas.{makes_forced}
use Rattle.changing_calls.proofs.remove.prepare_forced.Goals as goal

pub returns : goal.returns
returns c = makes_forced _ c.args.conn c.args.moment c.args.tables.now.state (container_in c.args.h.now) c.signal_code-code.result c.in_ok-brought.brought c.new-events.result.items
    c.requires.kept c.requires.stands c.signal_code-code.ensures refl refl c.in_ok-brought.ensures (ap (λ n. Begun n) c.next_ticket-ticket.ensures) c.new-events.ensures.items c.in_ok-tell_kill.ensures
