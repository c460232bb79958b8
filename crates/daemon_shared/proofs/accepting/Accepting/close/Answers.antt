use Rattle.daemon_shared.proofs.RunLemmas.{ends_all}
use Rattle.daemon_shared.proofs.accepting.Accepting.close.Goals as goal

pub returns-clause-ends : goal.returns-clause-ends
returns-clause-ends g c = ends_all _ _ _ _ _ _ _ _ _ _ _ _ _ _ c.close_all-ends.ensures.leaves c.worse_of.ensures
