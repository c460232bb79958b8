use Rattle.std.proofs.Common.{◌+◌, arith}
use Rattle.container_table.proofs.SpanLemmas.{above_first}
use Rattle.container_table.proofs.entries.last_place.Goals as goal

pub returns-then-number-first-clause-above : goal.returns-then-number-first-clause-above
returns-then-number-first-clause-above c = above_first c.args.numbers.now.items 0 c.args.number c.at-first.result.now c.requires c.at-first.ensures (λ less. omega arith)

pub returns-clause-above : goal.returns-clause-above
returns-clause-above c =
    above_first c.args.numbers.now.items (c.min.result + 1) c.args.number c.at-first.result.now c.requires c.at-first.ensures (λ less. omega arith)
