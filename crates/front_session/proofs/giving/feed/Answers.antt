use Rattle.std.proofs.Common.{arith, ap, length, length-append}
use Rattle.front_session.proofs.giving.feed.Goals as goal

pub read-requires-after_bounds : goal.read-requires-after_bounds
read-requires-after_bounds c κs =
    omega (
      arith,
      ap length c.loop-given.invariant,
      length-append c.loop-given.ahead c.loop-given.given.left.now,
      length-append c.args.ahead.now c.args.bytes.now,
      c.requires,
    )
