use Rattle.std.proofs.Common.{◌+◌, ◌<◌, ◌≤◌, ◌∙◌, length, sym, arith}
use Rattle.std.specs.Prelude.{◌-◌, ◌/◌}
use Rattle.exec_table.proofs.OwnerLemmas.{ahead_until, behind_from}
use Rattle.exec_table.proofs.owned.+place_between.Goals as goal

pub place_between-requires : goal.place_between-requires
place_between-requires t c =
    let top : c.args.high ≤ length c.args.owned.now.items = c.requires.bound in
    let middle : c.args.low + (c.args.high - c.args.low) / 2 < c.args.high = omega arith in
    let below = ahead_until c.args.with c.args.container c.args.owned.now.items (c.args.low + (c.args.high - c.args.low) / 2) c.at.result.now
    c.requires.rises (omega (arith, top, middle)) c.at.ensures (sym c.is_ahead.ensures ∙ c.if-is_ahead.true) in
    (omega arith, (c.requires.rises, (omega (arith, middle), (top, (below, c.requires.above)))))

pub place_between-requires-else-is_ahead : goal.place_between-requires-else-is_ahead
place_between-requires-else-is_ahead t c =
    let top : c.args.high ≤ length c.args.owned.now.items = c.requires.bound in
    let middle : c.args.low + (c.args.high - c.args.low) / 2 < c.args.high = omega arith in
    let above = behind_from c.args.with c.args.container c.args.owned.now.items (c.args.low + (c.args.high - c.args.low) / 2) c.at.result.now
    c.requires.rises (omega (arith, top, middle)) c.at.ensures (sym c.is_ahead.ensures ∙ c.if-is_ahead.false) in
    (omega arith, (c.requires.rises, (omega arith, (omega (arith, top, middle), (c.requires.below, above)))))
