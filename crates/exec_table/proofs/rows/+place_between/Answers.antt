use Rattle.std.proofs.Common.{◌+◌, ◌<◌, ◌≤◌, ◌∙◌, length, sym, arith}
use Rattle.std.specs.Prelude.{◌-◌, ◌/◌}
use Rattle.std.specs.Ordering.{nat_cmp}
use Rattle.container_table.proofs.SearchLemmas.{less_until, greater_from}
use Rattle.exec_table.specs.declared.row.Row.{Row}
use Rattle.exec_table.proofs.rows.+place_between.Goals as goal

pub place_between-requires : goal.place_between-requires
place_between-requires t c =
    let top : c.args.high ≤ length c.args.rows.now.items = c.requires.bound in
    let middle : c.args.low + (c.args.high - c.args.low) / 2 < c.args.high = omega arith in
    let below = less_until (λ (r : Row). nat_cmp r.exec.number c.args.number) c.args.rows.now.items (c.args.low + (c.args.high - c.args.low) / 2) c.at.result.now
    c.requires.rises (omega (arith, top, middle)) c.at.ensures (sym c.cmp.ensures ∙ c.in-Less.is) in
    (omega arith, (c.requires.rises, (omega (arith, middle), (top, (below, c.requires.above)))))

pub place_between-requires-in-Greater : goal.place_between-requires-in-Greater
place_between-requires-in-Greater t c =
    let top : c.args.high ≤ length c.args.rows.now.items = c.requires.bound in
    let middle : c.args.low + (c.args.high - c.args.low) / 2 < c.args.high = omega arith in
    let above = greater_from (λ (r : Row). nat_cmp r.exec.number c.args.number) c.args.rows.now.items (c.args.low + (c.args.high - c.args.low) / 2) c.at.result.now
    c.requires.rises (omega (arith, top, middle)) c.at.ensures (sym c.cmp.ensures ∙ c.in-Greater.is) in
    (omega arith, (c.requires.rises, (omega arith, (omega (arith, top, middle), (c.requires.below, above)))))
