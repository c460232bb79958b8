use Rattle.std.proofs.Common.{subst, sym}
use Rattle.machine_events.specs.Fit.{AreTimely}
use Rattle.machine_events.specs.Memory.{Memory}
use Rattle.machine_effects.specs.Views.Tables.{state_of}
use Rattle.machine_events.proofs.TimeLemmas.{can_thaw}
use Rattle.machine_effects.proofs.tables.Tables.signal_process.Goals as goal

pub signal-requires-clause-moment : goal.signal-requires-clause-moment
signal-requires-clause-moment c = can_thaw (state_of c.self.inside) c.args.owner (subst (λ (m : Memory). AreTimely m.state) (sym c.self.view_is) c.requires.timely)
