use Rattle.std.proofs.Common.{◌≡◌, ◌<◌, Option, arith, sym, ◌∙◌, subst}
use Rattle.health_watch.specs.declared.outcome.Outcome.{Outcome}
use Rattle.health_watch.specs.Probes.{outcome_of, most_steps}
use Rattle.health_watch.specs.ProbeSteps.{StepSays}
use Rattle.health_watch.proofs.ProbeLemmas.{known_in_all, course_more, lives_in_all}
use Rattle.health_watch.proofs.probes.outcome_of.Goals as goal

pub returns-in-Some : goal.returns-in-Some
unfolding outcome_of
returns-in-Some c =
    let at = c.loop-op.invariant in
    let few : c.loop-op._op < most_steps c.args.timeout = omega (arith, c.loop-op-test.true) in
    sym (known_in_all c.args.timeout c.loop-op._op at.0 (most_steps c.args.timeout) c.args.script at.1 c.in-Some.known few at.2
    (subst (λ (o : Option Outcome). StepSays c.args.timeout at.0 at.1 o c.step.new.kernel.processes) c.in-Some.is (c.in_ok-known.ensures at.0 at.1 at.3 at.4)))

pub loop-op-preserved : goal.loop-op-preserved
loop-op-preserved c =
    let at = c.loop-op.invariant in
    let step = subst (λ (o : Option Outcome). StepSays c.args.timeout at.0 at.1 o c.step.new.kernel.processes) c.in_default.is (c.in_ok-known.ensures at.0 at.1 at.3 at.4) in
    (step.0, step.1, course_more c.loop-op._op at.0 step.0 c.args.script at.1 step.1 at.2 step.2, step.3, step.4)

pub returns : goal.returns
unfolding outcome_of
returns c =
    let at = c.loop-op.invariant in
    let end : c.loop-op._op ≡ most_steps c.args.timeout = omega (arith, c.loop-op-test.false, c.loop-op.auto._op-end) in
    c.late.ensures ∙ sym (lives_in_all c.args.timeout c.loop-op._op at.0 (most_steps c.args.timeout) c.args.script at.1 end at.2)
