use Rattle.history_replay.proofs.LegalLemmas.{legal_law}
use Rattle.history_replay.proofs.laws.law_legal.Goals as goal

pub returns : goal.returns
returns c = legal_law
