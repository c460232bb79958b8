use Rattle.std.proofs.Common.{◌≡◌, ◌+◌, inl, inr, ⊎_elim, refl, sym, ◌∙◌, arith}
use Rattle.futures.specs.Task.{Lasting}
use Rattle.engine_loop.proofs.PauseLemmas.{poll_begins}
use Rattle.engine_loop.proofs.serving.Serving.poll_all.Goals as goal

pub loop-init : goal.loop-init
loop-init g c = (
  λ o so. so,
  omega (arith, c.len-end.ensures),
  inl (omega (arith, c.len-end.ensures)),
  refl,
  refl,
  refl,
  λ fact h. h,
  refl,
  λ o before so stood left count. poll_begins g.S.PollSource.gives g.K.PollSink.takes o _ before left c.args.self.now _ _
      (let n = c.args.self.now.connections.ok.0 in omega (arith, n, count, c.len-end.ensures)) so stood,
  omega arith,
)

pub loop-preserved : goal.loop-preserved
loop-preserved g c =
    let i = c.loop.invariant in
    let e = c.poll_first.ensures in (
      λ o so. e.goes o (i.0 o so),
      omega (arith, i.1, e.len),
      ⊎_elim (λ gone. ⊎_elim (λ all. inl (omega (arith, gone, all))) (λ armed. inr (e.kept Lasting.armed armed)) i.2) (λ waits. inr waits.1) e.waits,
      e.same.0 ∙ i.3,
      e.same.1 ∙ i.4,
      e.registered ∙ i.5,
      λ fact h. e.kept fact (i.6 fact h),
      e.ticks ∙ i.7,
      λ o before so stood left count. e.polls o before _ _ left c.both-rest.ensures (i.8 o before so stood (left + 1) (omega (arith, count))),
      omega (arith, i.9, e.later),
    )
