use Rattle.daemon_shared.proofs.RootLemmas.{grows_admitted, looks_admitted, saw_admitted}
use Rattle.daemon_shared.proofs.sharing.SharedDaemonAdmitting.admit.Goals as goal

pub returns-clause-grows : goal.returns-clause-grows
returns-clause-grows g c = grows_admitted _ _ _ _ _ c.in-Ok.ensures.admitted

pub returns-clause-saw : goal.returns-clause-saw
returns-clause-saw g c = saw_admitted _ _ _ _ _ c.in-Ok.ensures.admitted

pub returns-clause-looks : goal.returns-clause-looks
returns-clause-looks g c = looks_admitted _ _ _ _ _ c.in-Ok.ensures.admitted
