use Rattle.std.proofs.Common.{◌∙◌}
use Rattle.exec_table.proofs.OwnerLemmas.{count_between}
use Rattle.exec_table.proofs.owned.count_of.Goals as goal

pub returns : goal.returns
returns c = c.saturating_sub.ensures ∙ count_between c.args.container c.args.owned.now.items c.start_of.result c.end_of.result c.start_of.ensures.place c.end_of.ensures.place
