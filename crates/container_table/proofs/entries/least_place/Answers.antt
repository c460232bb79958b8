use Rattle.std.proofs.Common.{arith}
use Rattle.container_table.proofs.SpanLemmas.{below_last, below_least}
use Rattle.container_table.proofs.entries.least_place.Goals as goal

pub returns-then-last-number-clause-below : goal.returns-then-last-number-clause-below
returns-then-last-number-clause-below c =
    below_last c.args.numbers.now.items c.len-count.result c.args.number c.at-last.result.now c.requires (rw c.len-count.ensures at c.at-last.ensures) (omega arith)

pub returns-clause-below : goal.returns-clause-below
returns-clause-below c =
    below_least c.args.numbers.now.items c.saturating_sub.result c.args.number c.at-last.result.now c.requires (rw c.len-count.ensures at c.at-last.ensures) (omega arith) (omega arith)
