use Rattle.daemon_shared.proofs.RunLemmas.{serving_keeps, serving_on, leaves_joined, leaves_two}
use Rattle.daemon_shared.proofs.accepting.Accepting.settle.Goals as goal

pub join_finished-requires-clause-keep : goal.join_finished-requires-clause-keep
join_finished-requires-clause-keep g c κs within = serving_keeps _ _ _ _ _ _ _ _ _ c.requires.serving

pub leave_joined-requires-clause-serving : goal.leave_joined-requires-clause-serving
leave_joined-requires-clause-serving g c κs within = serving_on _ _ _ _ _ _ _ _ _ _ _ _ _ c.requires.serving (leaves_joined _ _ _ _ _ _ _ _ _ _ _ c.join_finished.ensures.joins c.join_finished.ensures.ends)

pub returns-clause-leaves : goal.returns-clause-leaves
returns-clause-leaves g c =
    leaves_two _ _ _ _ _ _ _ _ _ _ _ _ _ _ _ _ _ (leaves_joined _ _ _ _ _ _ _ _ _ _ _ c.join_finished.ensures.joins c.join_finished.ensures.ends) c.leave_joined.ensures.leaves
