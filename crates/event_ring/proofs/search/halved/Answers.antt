use Rattle.std.proofs.Common.{◌+◌, ◌-◌, ◌/◌, sym, ◌∙◌, arith}
use Rattle.event_ring.proofs.RingLemmas.{upper_half, halves_meet}
use Rattle.event_ring.proofs.search.halved.Goals as goal

pub halving-preserved : goal.halving-preserved
halving-preserved c =
    upper_half c.args.moment c.args.kept.now.items c.halving.low c.halving.high (c.halving.low + (c.halving.high - c.halving.low) / 2) c.requires c.halving.invariant
    (omega arith) (omega (arith, c.halving-test.true)) (sym c.comes_since.ensures ∙ c.if-comes_since.false)

pub returns-clause-place : goal.returns-clause-place
returns-clause-place c = halves_meet c.args.moment c.args.kept.now.items c.halving.low c.halving.high c.halving.invariant c.halving-test.false
