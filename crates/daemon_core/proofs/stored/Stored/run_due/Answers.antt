use Rattle.std.proofs.Common.{◌∙◌, sym}
use Rattle.daemon_core.specs.Keeping.{history_of}
use Rattle.daemon_core.proofs.DueLemmas.{one_more}
use Rattle.daemon_core.proofs.TellLemmas.{told_by, told_on}
use Rattle.daemon_core.proofs.stored.Stored.run_due.Goals as goal

pub due-preserved : goal.due-preserved
due-preserved c =
    let first = c.args.self.now in
    let d = c.due.self in
    let r = c.step_due.new.self in
    record {
      made = one_more c.args.moment first.machine.memory.state d.machine.memory.state r.machine.memory.state (history_of first.journal) (history_of d.journal) (history_of r.journal)
          c.requires.until c.due.invariant.made (sym c.acts.ensures ∙ c.due-test.true) c.in_ok-step_due.ensures.made;
      ends = c.step_due.ensures.ends;
      told = told_on first d r c.due.invariant.told c.in_ok-step_due.ensures.told;
    }

pub step_due-requires-clause-told : goal.step_due-requires-clause-told
step_due-requires-clause-told c = told_by c.args.self.now c.due.self c.due.invariant.told c.requires.told
