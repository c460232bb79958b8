use Rattle.lab_program.proofs.ServeLemmas.{ran_or_not}
use Rattle.lab_program.proofs.tools.run_over.Goals as goal

pub returns : goal.returns
returns g c = ran_or_not _ _ _ _ _ c.run_daemon-worst.result.1 _ _ c.from.ensures c.run_daemon-worst.ensures.none c.run_daemon-worst.ensures.some
