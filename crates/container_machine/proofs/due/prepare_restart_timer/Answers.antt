use Rattle.std.proofs.Common.{◌<◌, ◌^◌, refl, arith}
use Rattle.container_table.specs.Logs.{container_in}
use Rattle.container_machine.proofs.DueFoundLemmas.{container_stands}
use Rattle.container_machine.proofs.DueMakeLemmas.{makes_restart_timer}
use Rattle.call_plans.proofs.MakeLemmas.{few_found}
use Rattle.call_plans.proofs.ReadyLemmas.{few}
use Rattle.container_machine.proofs.due.prepare_restart_timer.Goals as goal

pub overflow_add-life : goal.overflow_add-life
overflow_add-life c =
    let low : c.standing-h.result.now.container.life.starts < 2 ^ 63 = few_found c.args.due.number c.args.tables.now.state.containers (container_in c.standing-h.result.now) (few c.args.tables.now.state c.requires.kept) c.standing-h.ensures in
    omega (arith, low)

pub standing-h-requires : goal.standing-h-requires
standing-h-requires c = container_stands c.args.tables.now.state c.args.due c.requires.kept c.requires.least (λ zero. let three = c.requires.rank in omega (arith, three, zero))

pub returns : goal.returns
returns c = makes_restart_timer _ c.args.due c.args.tables.now.state (container_in c.standing-h.result.now) c.in_ok-script.script c.new-events.result.items
    c.requires.rank c.standing-h.ensures c.in_ok-script.ensures refl refl c.new-events.ensures.items c.in_ok-tell_launch.ensures
