use Rattle.std.proofs.Common.{◌≡◌, Some, ap, sym, ◌∙◌}
use Rattle.machine_model.specs.State.{container_numbered}
use Rattle.container_table.specs.Logs.{container_in}
use Rattle.machine_events.proofs.SettleLemmas.{has_number}
use Rattle.call_plans.proofs.MakeLemmas.{looked}
use Rattle.call_plans.proofs.lookup.look.Goals as goal

pub returns-in-Some : goal.returns-in-Some
returns-in-Some c =
    let found : container_numbered c.in-One.number c.args.tables.now.state ≡ Some (container_in c.in-Some.h.now) = sym c.in-Some.ensures in (
      ap (λ m. container_numbered m c.args.tables.now.state) (has_number c.in-One.number c.args.tables.now.state (container_in c.in-Some.h.now) found) ∙ found,
      looked c.in-One.number c.args.moment c.args.target.now c.args.tables.now.state (container_in c.in-Some.h.now) (sym c.in-One.ensures) found,
    )
