use Rattle.front_session.proofs.LawLemmas.{some_front, one_front}
use Rattle.front_session.proofs.laws.law_one_front.Goals as goal

pub returns-clause-some : goal.returns-clause-some
returns-clause-some c = some_front

pub returns-clause-one : goal.returns-clause-one
returns-clause-one c = λ bytes deeds others a b. one_front a.0 b.0 bytes deeds others a.1 b.1
