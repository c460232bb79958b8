use Rattle.std.proofs.Common.{◌∙◌}
use Rattle.lab_front.proofs.QueryLemmas.{nothing_left}
use Rattle.lab_front.proofs.query.spells.Goals as goal

pub returns-in_default : goal.returns-in_default
returns-in_default c = c.is_empty.ensures ∙ nothing_left c.bytes.left.now c.bytes.wanted.now c.in_default.len_below ∙ c.bytes.invariant
