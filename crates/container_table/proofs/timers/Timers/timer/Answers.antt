use Rattle.std.proofs.Common.{Some, ◌∙◌, sym, ap}
use Rattle.container_table.specs.Tables.{Timed}
use Rattle.container_table.specs.Timers.{timer_in}
use Rattle.container_table.proofs.TimerLemmas.{timer_here, no_timer_here}
use Rattle.container_table.proofs.timers.Timers.timer.Goals as goal

pub returns-in-Ok : goal.returns-in-Ok
returns-in-Ok c =
    ap Some c.index.ensures
    ∙ sym (timer_here c.self.inside.listed.items (record { moment = 0; rank = c.args.rank; number = c.args.number }) c.in-Ok.i c.index.result.now c.self.invariant.listed
    (rw c.as_slice.ensures.value at c.in-Ok.ensures.place))
    ∙ ap (λ (k : Timed). timer_in c.args.rank c.args.number k.timers) c.self.view_is

pub returns-in-Err : goal.returns-in-Err
returns-in-Err c =
    sym (no_timer_here c.self.inside.listed.items (record { moment = 0; rank = c.args.rank; number = c.args.number }) c.in-Err.field-0 (rw c.as_slice.ensures.value at c.in-Err.ensures.place))
    ∙ ap (λ (k : Timed). timer_in c.args.rank c.args.number k.timers) c.self.view_is
