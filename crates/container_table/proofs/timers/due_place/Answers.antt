use Rattle.container_table.specs.DueOrders.{due_order}
use Rattle.container_table.specs.Timers.{is_before}
use Rattle.container_table.proofs.TimerLemmas.{found_by, due_total, due_less}
use Rattle.container_table.proofs.timers.due_place.Goals as goal

pub returns-clause-place : goal.returns-clause-place
returns-clause-place c =
    found_by due_order is_before due_total due_less c.args.due.now c.args.timer.now c.binary_search.result c.requires c.binary_search.ensures.bound c.binary_search.ensures.position
