use Rattle.one_program.proofs.ListenLemmas.{still_by}
use Rattle.one_program.proofs.listening.run_by.Goals as goal

pub returns-in-Some-clause-some : goal.returns-in-Some-clause-some
returns-in-Some-clause-some g c = still_by c.args.line.clock _ _ _ _ _ _ _ _ _ c.in-Some.is c.run_loop-in-Some.ensures.some
