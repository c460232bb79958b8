use Rattle.std.proofs.Common.{◌<◌, length, sym, subst}
use Rattle.container_table.specs.Ranks.{number_of}
use Rattle.container_table.proofs.TimerLemmas.{one_more}
use Rattle.machine_events.specs.Memory.{Memory}
use Rattle.machine_effects.proofs.tables.Tables.set_timer.Goals as goal

pub set-requires : goal.set-requires
set-requires c = one_more c.args.moment (number_of c.args.rank) c.args.number c.self.inside.table.timers c.self.inside.table.timer_places
    (subst (λ (m : Memory). length m.state.timers < m.room.timers) (sym c.self.view_is) c.requires)
