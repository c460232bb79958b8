use Rattle.std.proofs.Common.{◌≡◌, ◌+◌, Some, None, drop, ap, sym, ◌∙◌}
use Rattle.machine_model.specs.LogStream.{log_among}
use Rattle.machine_tables.proofs.LogLemmas.{kept_at, kept_behind, kept_end, kept_first}
use Rattle.machine_tables.proofs.kept_logs.kept_log.Goals as goal

pub returns-in-Some : goal.returns-in-Some
returns-in-Some c =
    let owner = c.args.owner in
    let here : log_among owner c.k-item.result.logs ≡ Some c.in-Some.log.now = ap (log_among owner) (sym c.as_slice.ensures) ∙ sym c.in-Some.ensures in
    sym (sym c.loop-k.invariant
    ∙ (kept_at owner c.args.kept.now c.loop-k.k-index c.k-item.result c.loop-k-test.true c.k-item.is
    ∙ kept_first owner c.k-item.result (drop (c.loop-k.k-index + 1) c.args.kept.now) c.in-Some.log.now here))

pub loop-k-preserved : goal.loop-k-preserved
loop-k-preserved c =
    let owner = c.args.owner in
    let other : log_among owner c.k-item.result.logs ≡ None = ap (log_among owner) (sym c.as_slice.ensures) ∙ sym c.in_default.ensures in
    sym (kept_at owner c.args.kept.now c.loop-k.k-index c.k-item.result c.loop-k-test.true c.k-item.is
    ∙ kept_behind owner c.k-item.result (drop (c.loop-k.k-index + 1) c.args.kept.now) other)
    ∙ c.loop-k.invariant

pub returns : goal.returns
returns c = sym (kept_end c.args.owner c.args.kept.now c.loop-k.k-index c.loop-k-test.false) ∙ c.loop-k.invariant
