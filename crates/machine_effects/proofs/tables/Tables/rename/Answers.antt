use Rattle.std.proofs.Common.{◌≡◌, None, sym, subst}
use Rattle.container_table.specs.Tables.{named}
use Rattle.machine_events.specs.Memory.{Memory}
use Rattle.machine_effects.proofs.tables.Tables.rename.Goals as goal

pub rename-requires : goal.rename-requires
rename-requires c = subst (λ (m : Memory). named c.args.name m.state.containers ≡ None) (sym c.self.view_is) c.requires
