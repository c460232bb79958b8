use Rattle.std.proofs.Common.{refl, arith}
use Rattle.container_table.specs.Logs.{container_in}
use Rattle.container_machine.proofs.DueFoundLemmas.{container_stands}
use Rattle.container_machine.proofs.DueMakeLemmas.{makes_stop_deadline}
use Rattle.call_plans.proofs.MakeLemmas.{few_found}
use Rattle.call_plans.proofs.ReadyLemmas.{few}
use Rattle.container_machine.proofs.due.prepare_stop_deadline.Goals as goal

pub standing-h-requires : goal.standing-h-requires
standing-h-requires c = container_stands c.args.tables.now.state c.args.due c.requires.kept c.requires.least (λ zero. let one = c.requires.rank in omega (arith, one, zero))

pub end_memory-requires : goal.end_memory-requires
end_memory-requires c = few_found c.args.due.number c.args.tables.now.state.containers (container_in c.standing-h.result.now) (few c.args.tables.now.state c.requires.kept) c.standing-h.ensures

pub returns : goal.returns
returns c = makes_stop_deadline _ c.args.due c.args.tables.now.state (container_in c.standing-h.result.now) c.in_ok-brought.brought c.signal_code-code.result c.new-events.result.items
    c.requires.kept c.requires.rank c.standing-h.ensures c.in_ok-brought.ensures c.signal_code-code.ensures refl refl c.new-events.ensures.items c.in_ok-tell_deadline.ensures
