use Rattle.std.proofs.Common.{arith, ◌<◌, length, subst}
use Rattle.front_session.specs.Front.{front_at}
use Rattle.front_session.specs.Steps.{Steps}
use Rattle.front_session.specs.declared.stepping.Act.TheVariants as act
use Rattle.front_session.proofs.HandLemmas.{owed_given}
use Rattle.front_session.proofs.stepping.FrontState.step.Goals as goal

pub returns-then-len-gt0 : goal.returns-then-len-gt0
returns-then-len-gt0 c =
    let some : 0 < length c.self.inside.owed = omega arith in
    let room : 0 < length c.give.new.into = omega (arith, c.give.auto.into, c.requires) in
    subst (λ f. Steps (act.Gave c.give.result) c.give.new.into f (front_at c.give.new.self c.self.inside.ahead c.self.inside.stage)) c.self.view_is
    (owed_given c.self.inside.owed c.give.new.self c.self.inside.ahead c.give.new.into c.self.inside.stage c.give.result c.give.ensures.count some room
    c.give.ensures.front c.give.ensures.left)
