use Rattle.std.proofs.Common.{sym, ◌∙◌, arith}
use Rattle.machine_tables.proofs.MomentPlaceLemmas.{scanned_more, scanned_here, scanned_all}
use Rattle.machine_tables.proofs.moment_places.scanned.Goals as goal

pub returns-then-comes_since-clause-place : goal.returns-then-comes_since-clause-place
returns-then-comes_since-clause-place c =
    scanned_here c.args.moment c.args.moments.now.items c.places.i (omega (arith, c.places-test.true, c.len-len.ensures)) c.places.invariant
    (sym c.comes_since.ensures ∙ c.if-comes_since.true)

pub places-preserved : goal.places-preserved
places-preserved c =
    scanned_more c.args.moment c.args.moments.now.items c.places.i (omega (arith, c.places-test.true, c.len-len.ensures)) c.places.invariant
    (sym c.comes_since.ensures ∙ c.if-comes_since.false)

pub returns-clause-place : goal.returns-clause-place
returns-clause-place c =
    scanned_all c.args.moment c.args.moments.now.items c.len-len.result (omega (arith, c.len-len.ensures))
    (λ k d b. c.places.invariant k d (omega (arith, c.places-test.false)))
