use Rattle.std.proofs.Common.{refl, ◌∙◌, ap, arith}
use Rattle.engine_loop.proofs.AskLemmas.{may_take}
use Rattle.engine_loop.proofs.serving.Serving.accept_all.Goals as goal

pub accept_one-requires : goal.accept_one-requires
accept_one-requires g c =
    let i = c.loop.invariant in
    record { may = may_take g.S.PollSource.gives g.K.PollSink.takes _ _ _ _ _ _ _ _ i.1 (omega (arith, i.2, c.loop-test.true)) (i.0 _ _ c.requires.stands.1.1) }

pub loop-preserved : goal.loop-preserved
loop-preserved g c =
    let i = c.loop.invariant in
    let e = c.accept_one.ensures in
    let came = c.if-not-accept_one.ensures.came refl in
    let left = ap (λ y. y.left) came.0 in (
      λ t o so. e.goes t o (i.0 t o so),
      ap (λ y. y.end) came.0 ∙ i.1,
      omega (arith, left, i.2, c.loop-test.true),
      came.1 ∙ i.3,
      e.stop ∙ i.4,
      λ fact h. e.kept fact (i.5 fact h),
      λ before h. e.stood before (i.6 before h),
    )

pub returns-then-not-accept_one-clause-goes : goal.returns-then-not-accept_one-clause-goes
returns-then-not-accept_one-clause-goes g c = λ t o so. c.accept_one.ensures.goes t o (c.loop.invariant.0 t o so)

pub returns-then-not-accept_one-clause-stood : goal.returns-then-not-accept_one-clause-stood
returns-then-not-accept_one-clause-stood g c = λ before h. c.accept_one.ensures.stood before (c.loop.invariant.6 before h)
