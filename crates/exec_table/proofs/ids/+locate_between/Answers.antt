use Rattle.std.proofs.Common.{ℕ, ◌+◌, ◌<◌, ◌≤◌, ◌∙◌, length, sym, arith}
use Rattle.std.specs.Prelude.{◌-◌, ◌/◌}
use Rattle.container_table.proofs.SearchLemmas.{less_until, greater_from}
use Rattle.exec_table.specs.ExecsInside.{execs_in, id_order}
use Rattle.exec_table.proofs.ids.+locate_between.Goals as goal

pub locate_between-requires : goal.locate_between-requires
locate_between-requires t c =
    let top : c.args.high ≤ length c.args.ids.now.items = c.requires.1.1.1.1.1.0 in
    let m : ℕ = c.args.low + (c.args.high - c.args.low) / 2 in
    let x : ℕ = c.at.result.now in
    let middle : c.args.low + (c.args.high - c.args.low) / 2 < c.args.high = omega arith in
    let low : c.args.low + (c.args.high - c.args.low) / 2 < length c.args.ids.now.items = omega (arith, top, middle) in
    let below = less_until (id_order (execs_in c.args.rows.now.items) c.args.id.now) c.args.ids.now.items m x
    c.requires.1.1.1.0 low c.at.ensures (sym c.compare.ensures ∙ c.in-Less.is) in
    (omega arith, (c.requires.1.1.0, (c.requires.1.1.1.0, (omega (arith, middle), (top, (below, c.requires.1.1.1.1.1.1.1))))))

pub locate_between-requires-in-Greater : goal.locate_between-requires-in-Greater
locate_between-requires-in-Greater t c =
    let top : c.args.high ≤ length c.args.ids.now.items = c.requires.1.1.1.1.1.0 in
    let m : ℕ = c.args.low + (c.args.high - c.args.low) / 2 in
    let x : ℕ = c.at.result.now in
    let middle : c.args.low + (c.args.high - c.args.low) / 2 < c.args.high = omega arith in
    let low : c.args.low + (c.args.high - c.args.low) / 2 < length c.args.ids.now.items = omega (arith, top, middle) in
    let above = greater_from (id_order (execs_in c.args.rows.now.items) c.args.id.now) c.args.ids.now.items m x
    c.requires.1.1.1.0 low c.at.ensures (sym c.compare.ensures ∙ c.in-Greater.is) in
    (omega arith, (c.requires.1.1.0, (c.requires.1.1.1.0, (omega arith, (omega (arith, top, middle), (c.requires.1.1.1.1.1.1.0, above))))))
