use Rattle.std.proofs.Common.{◌≡◌, ◌<◌, ◌==◌, length, ℕ, false, sym, ◌∙◌, arith}
use Rattle.std.proofs.lemmas.Bool.Decides.{nat_tests}
use Rattle.daemon_core.proofs.WrittenLemmas.{piece_more, longer_by, longer_on}
use Rattle.daemon_core.proofs.frames.put_rest.Goals as goal

some_length : (n : ℕ) → (n == 0) ≡ false → 0 < n
some_length n e = grind (arith, nat_tests)

pub loop-left-preserved : goal.loop-left-preserved
loop-left-preserved c = (
  piece_more c.args.kind c.loop-left.out.items c.put_frame.new.out.items c.loop-left.left.now c.split_at.result.0.now c.split_at.result.1.now
      c.min.result (some_length (length c.loop-left.left.now) (sym c.is_empty.ensures ∙ c.loop-left-test.true)) c.min.ensures c.split_at.ensures.front c.split_at.ensures.back c.in_ok-put_frame.ensures.ok
      ∙ c.loop-left.invariant.0,
  longer_on _ _ _ c.loop-left.invariant.1 (longer_by _ _ _ c.in_ok-put_frame.ensures.ok),
)
