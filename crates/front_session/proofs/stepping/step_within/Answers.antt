use Rattle.front_session.proofs.HandLemmas.{within_gave}
use Rattle.front_session.proofs.stepping.step_within.Goals as goal

pub returns-in-Gave : goal.returns-in-Gave
returns-in-Gave c = within_gave c.in-Gave.count c.args.left c.hand.new.into c.args.ahead.now c.hand.new.ahead c.in-Gave.ensures
