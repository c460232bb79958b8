use Rattle.std.proofs.Common.{refl, sym, ◌∙◌}
use Rattle.container_table.specs.Logs.{container_in}
use Rattle.machine_model.specs.Effects.Meet.{logged}
use Rattle.machine_events.proofs.LifeLemmas.{recorded_is, untouched}
use Rattle.machine_events.proofs.lives.record.Goals as goal

pub returns-in_default-clause-containers : goal.returns-in_default-clause-containers
returns-in_default-clause-containers c = untouched c.args.number (logged c.args.stream c.args.payload c.args.moment) c.args.table.now.containers (sym c.in_default.ensures)

pub returns-clause-containers : goal.returns-clause-containers
returns-clause-containers c =
    c.push_record.ensures.containers
    ∙ recorded_is c.args.number _ c.args.stream c.args.payload c.args.moment (container_in c.in-Some.h.now) c.args.table.now.containers (sym c.in-Some.ensures) refl
