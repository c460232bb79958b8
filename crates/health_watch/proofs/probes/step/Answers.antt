use Rattle.std.proofs.Common.{◌≡◌, Some, None, sym, ◌∙◌}
use Rattle.proc_kernel.specs.Processes.{next_due, run_due}
use Rattle.health_watch.proofs.ProbeLemmas.{known_none, known_late, known_over, goes_on, timely_behind, due_alone, effect_alone, after_alone}
use Rattle.health_watch.proofs.probes.step.Goals as goal

pub returns-in_default : goal.returns-in_default
returns-in_default c t p timely h n =
    known_none c.args.timeout t p (due_alone p c.args.kernel.now.processes None c.in_default.ensures h) n ∙ sym c.late.ensures

pub returns-then-moment-timeout : goal.returns-then-moment-timeout
returns-then-moment-timeout c t p timely h n =
    known_late c.args.timeout t c.in-Some.moment p timely (due_alone p c.args.kernel.now.processes (Some c.in-Some.moment) c.in-Some.ensures h) c.if-moment-timeout.true n
    ∙ sym c.late-then-moment-timeout.ensures

pub returns-in-None : goal.returns-in-None
returns-in-None c t p timely h =
    let due : next_due p ≡ Some c.in-Some.moment = due_alone p c.args.kernel.now.processes (Some c.in-Some.moment) c.in-Some.ensures h in (
      c.in-Some.moment,
      (run_due c.in-Some.moment p).process,
      goes_on t c.in-Some.moment p due (effect_alone c.in-Some.moment p c.reserve.new.self.processes None c.run_due.result c.in-None.ensures c.run_due.ensures.effect (c.reserve.ensures.processes ∙ h)),
      timely_behind t p c.in-Some.moment timely due,
      after_alone c.in-Some.moment p c.reserve.new.self.processes c.run_due.new.self.processes c.run_due.ensures.processes (c.reserve.ensures.processes ∙ h),
    )

pub returns-in-Some-ended_by : goal.returns-in-Some-ended_by
returns-in-Some-ended_by c t p timely h n =
    known_over c.args.timeout t c.in-Some.moment c.in-Some-ended_by.code p
    (due_alone p c.args.kernel.now.processes (Some c.in-Some.moment) c.in-Some.ensures h) c.if-moment-timeout.false
    (effect_alone c.in-Some.moment p c.reserve.new.self.processes (Some c.in-Some-ended_by.code) c.run_due.result c.in-Some-ended_by.ensures c.run_due.ensures.effect (c.reserve.ensures.processes ∙ h)) n
