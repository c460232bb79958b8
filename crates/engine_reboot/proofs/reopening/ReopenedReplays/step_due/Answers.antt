use Rattle.std.proofs.Common.{[], ◌∷◌, ◌∙◌}
use Rattle.engine_text.specs.declared.step.Step.{Step}
use Rattle.daemon_core.specs.Keeping.{history_of}
use Rattle.daemon_core.specs.Passing.{charter, whole_pass}
use Rattle.engine_reboot.proofs.ReopenLemmas.{due_next, made_on}
use Rattle.engine_reboot.proofs.reopening.ReopenedReplays.step_due.Goals as goal

pub invariant_of-self : goal.invariant_of-self
invariant_of-self c =
    let d = c.args.self.now.daemon in
    record {
      first = c.args.self.now.first
          ∙ due_next c.make_due.result (whole_pass c.make_due.new.self) (charter d) (history_of d.stored.journal) c.make_due.ensures.made c.make_due.ensures.stays;
    }

pub returns-clause-made : goal.returns-clause-made
returns-clause-made c =
    let d = c.args.self.now.daemon in
    made_on c.make_due.result (whole_pass c.make_due.new.self) (charter d) (history_of d.stored.journal) (Step.Due ∷ []) c.make_due.ensures.made
