use Rattle.polled_model.proofs.TakeoverLemmas.{all_takeovers}
use Rattle.polled_model.proofs.laws.law_of_takeovers.Goals as goal

pub returns : goal.returns
returns c = all_takeovers
