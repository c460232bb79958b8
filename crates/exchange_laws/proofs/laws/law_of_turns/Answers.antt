use Rattle.exchange_laws.proofs.TurnLemmas.{turn_comes}
use Rattle.exchange_laws.proofs.laws.law_of_turns.Goals as goal

pub returns : goal.returns
returns c = turn_comes
