use Rattle.std.proofs.Common.{◌∙◌, sym}
use Rattle.exec_table.specs.ExecsInside.{execs_in, sorted_by_owner}
use Rattle.exec_table.proofs.OwnerLemmas.{one_on}
use Rattle.exec_table.proofs.listing.ExecListIterator.next.Goals as goal

pub returns-clause-steps : goal.returns-clause-steps
returns-clause-steps c =
    sym c.self.view_is
    ∙ one_on (sorted_by_owner (execs_in c.self.inside.rows.now.items)) c.self.inside.from c.self.inside.until c.exec_at-found.result.now c.if-self.false c.exec_at-found.ensures
