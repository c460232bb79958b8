use Rattle.front_session.proofs.LawLemmas.{sees_others}
use Rattle.front_session.proofs.laws.law_sessions_see_others.Goals as goal

pub returns : goal.returns
returns c = sees_others
