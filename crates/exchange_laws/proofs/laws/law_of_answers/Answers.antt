use Rattle.exchange_laws.proofs.AnswerLemmas.{answers}
use Rattle.exchange_laws.proofs.laws.law_of_answers.Goals as goal

pub returns : goal.returns
returns c = answers
