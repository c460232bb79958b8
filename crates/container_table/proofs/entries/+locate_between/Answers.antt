use Rattle.std.proofs.Common.{◌+◌, ◌<◌, ◌≤◌, ◌∙◌, length, sym, arith}
use Rattle.std.specs.Prelude.{◌-◌, ◌/◌}
use Rattle.container_table.specs.Held.{contents, entry_order}
use Rattle.container_table.proofs.SearchLemmas.{less_until, greater_from}
use Rattle.container_table.proofs.entries.+locate_between.Goals as goal

pub locate_between-requires : goal.locate_between-requires
locate_between-requires t c =
    let top : c.args.high ≤ length c.args.entries.now.items = c.requires.1.1.1.1.1.1.0 in
    let middle : c.args.low + (c.args.high - c.args.low) / 2 < c.args.high = omega arith in
    let below = less_until (entry_order c.args.key (contents c.args.held.now.list.items) c.args.text.now) c.args.entries.now.items (c.args.low + (c.args.high - c.args.low) / 2) c.at.result.now
    c.requires.1.1.1.1.0 (omega (arith, top, middle)) c.at.ensures (sym c.compare.ensures ∙ c.in-Less.is) in
    (omega arith, (c.requires.1.1.0, (c.requires.1.1.1.0, (c.requires.1.1.1.1.0, (omega (arith, middle), (top, (below, c.requires.1.1.1.1.1.1.1.1)))))))

pub locate_between-requires-in-Greater : goal.locate_between-requires-in-Greater
locate_between-requires-in-Greater t c =
    let top : c.args.high ≤ length c.args.entries.now.items = c.requires.1.1.1.1.1.1.0 in
    let middle : c.args.low + (c.args.high - c.args.low) / 2 < c.args.high = omega arith in
    let above = greater_from (entry_order c.args.key (contents c.args.held.now.list.items) c.args.text.now) c.args.entries.now.items (c.args.low + (c.args.high - c.args.low) / 2) c.at.result.now
    c.requires.1.1.1.1.0 (omega (arith, top, middle)) c.at.ensures (sym c.compare.ensures ∙ c.in-Greater.is) in
    (omega arith, (c.requires.1.1.0, (c.requires.1.1.1.0, (c.requires.1.1.1.1.0, (omega arith, (omega (arith, top, middle), (c.requires.1.1.1.1.1.1.1.0, above)))))))
