use Rattle.std.proofs.Common.{None, sym, ap, subst}
use Rattle.http_edge.specs.Spelling.{HasNoRequest}
use Rattle.front_session.specs.Reads.{whole, FrontReads, GoesSo}
use Rattle.engine_ports.specs.declared.ports.Got.TheVariants as got
use Rattle.front_session.proofs.ReadLemmas.{gave_on, went_on, ended_on, answered_on, answer_lost}
use Rattle.front_session.proofs.fronting.step.Goals as goal

pub want-requires-clause-none : goal.want-requires-clause-none
want-requires-clause-none g c = subst (λ f. HasNoRequest f.ahead) (sym c.in-Wants.ensures.0) c.in-Wants.ensures.6

pub returns-in-Gave : goal.returns-in-Gave
returns-in-Gave g c = gave_on c.in-Gave.count c.step.new.into _ _ c.args.front.now c.step.new.self c.in-Gave.ensures

pub returns-in-Ok : goal.returns-in-Ok
returns-in-Ok g c =
    subst (λ s. GoesSo None c.step.new.into (whole (g.W.TwoWays.source c.args.ways.now) (g.W.TwoWays.sink c.args.ways.now) c.args.front.now)
    (whole s (g.W.TwoWays.sink c.write_row.new.ways) c.step.new.self)) (sym c.in-Ok.ensures.same)
    (answered_on c.in-Answers.terms c.in-Answers.row c.step.new.into _ _ _ c.args.front.now c.step.new.self c.in-Answers.ensures c.in-Ok.ensures.says)

pub returns-in-Err : goal.returns-in-Err
returns-in-Err g c =
    subst (λ s. FrontReads got.Failed c.step.new.into (whole (g.W.TwoWays.source c.args.ways.now) (g.W.TwoWays.sink c.args.ways.now) c.args.front.now)
    (whole s (g.W.TwoWays.sink c.write_row.new.ways) c.stand.new.self)) (sym c.in-Err.ensures.same)
    (answer_lost c.in-Answers.terms c.in-Answers.row c.step.new.into c.in-Err.field-0 _ _ _ c.args.front.now c.step.new.self c.stand.new.self
    c.in-Answers.ensures c.in-Err.ensures.says (ap (λ f. f.stage) c.stand.ensures))

pub returns-in-On : goal.returns-in-On
returns-in-On g c = went_on c.step.new.into _ _ c.args.front.now c.step.new.self c.in-On.ensures

pub returns-in-Ended : goal.returns-in-Ended
returns-in-Ended g c = ended_on c.step.new.into _ _ c.args.front.now c.step.new.self c.in-Ended.ensures
