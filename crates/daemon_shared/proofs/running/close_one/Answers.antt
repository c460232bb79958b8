use Rattle.daemon_shared.proofs.RunLemmas.{closes_one, not_root}
use Rattle.daemon_shared.proofs.running.close_one.Goals as goal

pub join-requires-clause-not_root : goal.join-requires-clause-not_root
join-requires-clause-not_root g c = not_root _ _ _ _ _ _ _ _ _ c.requires.ready.1 c.requires.ready.2 c.wait_for-number.ensures

pub returns-clause-closes : goal.returns-clause-closes
returns-clause-closes g c = closes_one _ _ _ _ _ _ _ _ _ _ _ c.wait_for-number.ensures c.requires.root c.join.ensures.root c.join.ensures.joined c.join.ensures.learned c.leave.ensures.says
