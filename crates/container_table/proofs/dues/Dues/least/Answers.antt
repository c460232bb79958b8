use Rattle.std.proofs.Common.{◌∙◌, ap}
use Rattle.container_table.specs.Dues.{DueList}
use Rattle.container_table.specs.Timers.{least}
use Rattle.container_table.proofs.DueLemmas.{first_least}
use Rattle.container_table.proofs.dues.Dues.least.Goals as goal

pub returns : goal.returns
returns c = c.first_of.ensures ∙ first_least c.self.inside.list.items c.self.invariant ∙ ap (λ (l : DueList). least l.actions) c.self.view_is
