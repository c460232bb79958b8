use Rattle.std.proofs.Common.{◌∙◌}
use Rattle.engine_text.proofs.PartLemmas.{found_is}
use Rattle.engine_text.proofs.search.has_part.Goals as goal

pub returns : goal.returns
returns c = c.is_some.ensures ∙ found_is c.args.text.now c.args.part.now c.find.result c.find.ensures
