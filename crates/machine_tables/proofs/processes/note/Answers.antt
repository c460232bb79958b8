use Rattle.std.proofs.Common.{◌∙◌, Option, ℕ, ap, sym}
use Rattle.container_table.specs.Dues.{with_due}
use Rattle.engine_text.specs.declared.step.DueAction.{DueAction}
use Rattle.machine_tables.specs.LeastDue.{with_due_at}
use Rattle.machine_tables.proofs.processes.note.Goals as goal

pub returns-in-Some-clause-actions : goal.returns-in-Some-clause-actions
returns-in-Some-clause-actions c =
    c.add.ensures.actions ∙ ap (λ (d : DueAction). with_due d c.args.dues.now.actions) c.action.ensures
    ∙ ap (λ (o : Option ℕ). with_due_at c.args.owner o c.args.dues.now.actions) (sym c.in-Some.is)

pub returns-in_default-clause-actions : goal.returns-in_default-clause-actions
returns-in_default-clause-actions c = ap (λ (o : Option ℕ). with_due_at c.args.owner o c.args.dues.now.actions) (sym c.in_default.is)
