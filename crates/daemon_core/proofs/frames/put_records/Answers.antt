use Rattle.std.proofs.Common.{◌≡◌, ◌+◌, ◌++◌, take, ap, sym, ◌∙◌, arith}
use Rattle.daemon_core.specs.Framing.{asked_bytes}
use Rattle.daemon_core.proofs.WrittenLemmas.{records_more, on_err, longer_by, longer_on}
use Rattle.daemon_core.proofs.frames.put_records.Goals as goal

pub returns-in_err-put_asked-clause-err : goal.returns-in_err-put_asked-clause-err
returns-in_err-put_asked-clause-err c =
    on_err c.from_residual.result (longer_on _ _ _ (longer_by _ _ _ c.loop-item.invariant.1) c.in_err-put_asked.ensures.err)

pub returns-then-full-len-clause-ok : goal.returns-then-full-len-clause-ok
returns-then-full-len-clause-ok c =
    let at : c.loop-item.passed ≡ c.loop-item.item-index = c.loop-item.invariant.0 in
    let more = records_more c.args.spec.now c.args.records.now c.loop-item.item-index c.item-item.result _ c.args.out.now.items c.loop-item.out.items
    c.put_asked.new.out.items c.loop-item-test.true c.item-item.is c.loop-item.invariant.1 c.in_ok-put_asked.ensures.ok in (
      omega arith,
      (let below = c.loop-item-test.true in omega (arith, at, below)),
      more ∙ ap (λ n. c.args.out.now.items ++ asked_bytes c.args.spec.now (take (n + 1) c.args.records.now)) (sym at),
    )

pub loop-item-preserved : goal.loop-item-preserved
loop-item-preserved c = (
  ap (λ n. n + 1) c.loop-item.invariant.0,
  records_more c.args.spec.now c.args.records.now c.loop-item.item-index c.item-item.result _ c.args.out.now.items c.loop-item.out.items
      c.put_asked.new.out.items c.loop-item-test.true c.item-item.is c.loop-item.invariant.1 c.in_ok-put_asked.ensures.ok,
)
