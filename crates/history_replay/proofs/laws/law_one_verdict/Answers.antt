use Rattle.history_replay.proofs.OneVerdictLemmas.{one_verdict_law}
use Rattle.history_replay.proofs.laws.law_one_verdict.Goals as goal

pub returns : goal.returns
returns c = one_verdict_law
