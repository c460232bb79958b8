use Rattle.std.proofs.Common.{refl, ◌∙◌, arith}
use Rattle.daemon_shared.proofs.RunLemmas.{leaves_none, leaves_two, serving_on}
use Rattle.daemon_shared.proofs.closing.leave_joined.Goals as goal

pub loop-left-init : goal.loop-left-init
loop-left-init g c = (leaves_none _ _ _ _ _ _ _ _ _, omega arith, refl, refl)

pub close_first-requires-clause-serving : goal.close_first-requires-clause-serving
close_first-requires-clause-serving g c κs within = serving_on _ _ _ _ _ _ _ _ _ _ _ _ _ c.requires.serving c.loop-left.invariant.0

pub loop-left-preserved : goal.loop-left-preserved
loop-left-preserved g c =
    let i = c.loop-left.invariant in
    let e = c.close_first.ensures in (
      leaves_two _ _ _ _ _ _ _ _ _ _ _ _ _ _ _ _ _ i.0 e.leaves,
      omega (arith, i.1, e.len),
      e.room ∙ i.2,
      e.same ∙ i.3,
    )
