use Rattle.std.proofs.Common.{◌∙◌, ap, sym}
use Rattle.container_table.specs.Dues.{with_due}
use Rattle.engine_text.specs.declared.step.DueAction.{DueAction}
use Rattle.machine_tables.proofs.ProcessLemmas.{entered_by, entered_none, has_place}
use Rattle.machine_tables.proofs.processes.enter.Goals as goal

pub add-requires : goal.add-requires
add-requires c = has_place c.args.owner c.args.kernel.now.processes c.in-Some.moment c.args.dues.now.places c.args.dues.now.actions (sym c.next_due.ensures ∙ c.in-Some.is) c.requires.others c.requires.room

pub returns-in-Some-clause-actions : goal.returns-in-Some-clause-actions
returns-in-Some-clause-actions c =
    entered_by c.args.owner c.args.kernel.now.processes c.in-Some.moment c.args.dues.now.actions c.add.new.self.actions (sym c.next_due.ensures ∙ c.in-Some.is) c.requires.others
    (c.add.ensures.actions ∙ ap (λ (d : DueAction). with_due d c.args.dues.now.actions) c.action.ensures)

pub returns-in_default-clause-actions : goal.returns-in_default-clause-actions
returns-in_default-clause-actions c = entered_none c.args.owner c.args.kernel.now.processes c.args.dues.now.actions (sym c.next_due.ensures ∙ c.in_default.is) c.requires.others
