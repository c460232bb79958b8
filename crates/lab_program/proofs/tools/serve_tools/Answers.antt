use Rattle.std.proofs.Common.{subst, sym}
use Rattle.front_session.specs.Sharing.{untold}
use Rattle.lab_program.specs.Serving.{RunsOver}
use Rattle.lab_program.proofs.tools.serve_tools.Goals as goal

pub returns-in-None : goal.returns-in-None
returns-in-None g c =
    let worst = c.run_over-worst.result in
    subst (λ x. RunsOver c.args.lab c.args.moment worst (untold (g.D.Door.opens x)) (untold (g.D.Door.opens c.into_door.result))) c.new-front.ensures
    (subst (λ x. RunsOver c.args.lab c.args.moment worst (untold (g.D.Door.opens c.new-front.result.door)) (untold (g.D.Door.opens x)))
    (sym c.into_door.ensures) c.run_over-worst.ensures)

pub returns-in-Some : goal.returns-in-Some
returns-in-Some g c =
    let worst = c.run_over-worst-in-Some.result in
    let left = c.run_over-worst-in-Some.new.door in
    subst (λ x. RunsOver c.args.lab c.args.moment worst (untold (g.D.Door.opens c.args.door)) (untold (g.D.Door.opens x)))
    (sym c.into_door-in-Some-2.ensures)
    (subst (λ x. RunsOver c.args.lab c.args.moment worst (untold (g.D.Door.opens c.args.door)) (untold (g.D.Door.opens x.door)))
    (sym c.into_door-in-Some.ensures)
    (subst (λ x. RunsOver c.args.lab c.args.moment worst (untold (g.D.Door.opens x)) (untold (g.D.Door.opens left.door.door))) c.new-front.ensures
    (subst (λ x. RunsOver c.args.lab c.args.moment worst (untold (g.D.Door.opens x.door)) (untold (g.D.Door.opens left.door.door))) c.new-timed.ensures
    c.run_over-worst-in-Some.ensures)))
