use Rattle.session_poll.proofs.StandingLemmas.{new_stands}
use Rattle.session_poll.proofs.laws.law_of_new_sessions.Goals as goal

pub returns : goal.returns
returns c = new_stands
