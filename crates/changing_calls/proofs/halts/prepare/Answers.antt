use Rattle.std.proofs.Common.{ℤ, refl, ap, rules}
use Rattle.std.proofs.lemmas.Int.{to_z-of_z}
use mir.Syntax.{w32}
use Rattle.call_plans.specs.declared.plan.Plan.{Plan}
use Rattle.container_table.specs.Logs.{container_in}
use Rattle.changing_calls.proofs.StopLemmas.{low_used, makes_halt}
use Rattle.changing_calls.proofs.halts.prepare.Goals as goal

pub signal_code-code-requires : goal.signal_code-code-requires
signal_code-code-requires c =
    low_used c.args.signal c.args.h.now.container.number c.args.tables.now.state (container_in c.args.h.now) c.signal_used-sent.result.number
    c.requires.kept c.requires.stands c.requires.signal c.signal_used-sent.ensures

pub returns : goal.returns
returns c = makes_halt _ c.args.moment c.args.tables.now.state (container_in c.args.h.now) c.args.conn c.args.halting c.args.wait c.args.signal c.signal_used-sent.result c.seconds_used-seconds.result c.goal-goal.result
    c.signal_code-code.result c.in_ok-brought.brought c.next_ticket-ticket.result c.new-events.result.items
    c.requires.kept c.requires.stands
    (low_used c.args.signal c.args.h.now.container.number c.args.tables.now.state (container_in c.args.h.now) c.signal_used-sent.result.number c.requires.kept c.requires.stands c.requires.signal c.signal_used-sent.ensures)
    c.signal_used-sent.ensures c.seconds_used-seconds.ensures c.goal-goal.ensures c.signal_code-code.ensures
    refl (ap (λ (z : ℤ). Plan.Halt c.args.conn c.args.h.now.container.number c.args.halting c.signal_used-sent.result z c.in_ok-brought.brought) (to_z-of_z w32 c.seconds_used-seconds.result (search rules)))
    c.in_ok-brought.ensures refl c.next_ticket-ticket.ensures c.new-events.ensures.items c.in_ok-tell_kill.ensures
