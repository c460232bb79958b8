use Rattle.std.proofs.Common.{◌∙◌, ap, sym}
use Rattle.container_table.specs.Dues.{without_due}
use Rattle.engine_text.specs.declared.step.DueAction.{DueAction}
use Rattle.machine_tables.proofs.ProcessLemmas.{left_alone, left_by}
use Rattle.machine_tables.proofs.processes.leave.Goals as goal

pub returns-in-Some-clause-actions : goal.returns-in-Some-clause-actions
returns-in-Some-clause-actions c =
    left_by c.args.owner c.args.kernel.now.processes c.in-Some.moment c.args.dues.now.actions c.remove.new.self.actions (sym c.next_due.ensures ∙ c.in-Some.is) c.requires
    (c.remove.ensures.actions ∙ ap (λ (d : DueAction). without_due d c.args.dues.now.actions) c.action.ensures)

pub returns-in_default-clause-actions : goal.returns-in_default-clause-actions
returns-in_default-clause-actions c = left_alone c.args.owner c.args.kernel.now.processes c.args.dues.now.actions (sym c.next_due.ensures ∙ c.in_default.is) c.requires
