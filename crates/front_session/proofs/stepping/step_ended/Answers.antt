use Rattle.std.proofs.Common.{arith, ◌<◌, length}
use Rattle.front_session.proofs.HandLemmas.{ended_gave}
use Rattle.front_session.proofs.stepping.step_ended.Goals as goal

pub returns : goal.returns
returns c =
    let some : 0 < length c.args.ahead.now = omega arith in
    let room : 0 < length c.take.new.into = omega (arith, c.take.auto.into, c.requires) in
    ended_gave c.args.ahead.now c.take.new.self c.take.new.into c.take.result c.take.ensures.count some room c.take.ensures.front c.take.ensures.left
