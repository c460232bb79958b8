use Rattle.std.proofs.Common.{refl, ◌∙◌}
use Rattle.daemon_shared.proofs.RunLemmas.{joins_none, joins_two}
use Rattle.daemon_shared.proofs.session_list.Sessions.join_finished.Goals as goal

pub loop-number-init : goal.loop-number-init
loop-number-init g c = (joins_none _ _ _ _ _ c.requires.keep, refl, refl, refl)

pub join_number-requires-clause-keep : goal.join_number-requires-clause-keep
join_number-requires-clause-keep g c κs within = c.loop-number.invariant.0.keep

pub loop-number-preserved : goal.loop-number-preserved
loop-number-preserved g c =
    let i = c.loop-number.invariant in
    let e = c.join_number.ensures in (
      joins_two _ _ _ _ _ _ _ i.0 e.joins,
      e.room.0 ∙ i.1,
      e.room.1 ∙ i.2,
      e.ends ∙ i.3,
    )
