use Rattle.history_replay.proofs.CompleteLemmas.{complete_law}
use Rattle.history_replay.proofs.laws.law_complete.Goals as goal

pub returns : goal.returns
returns c = complete_law
