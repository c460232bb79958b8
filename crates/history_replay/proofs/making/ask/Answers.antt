use Rattle.std.proofs.Common.{◌∙◌, ap}
use Rattle.engine_text.specs.declared.step.Step.{Step}
use Rattle.machine_model.specs.State.{State}
use Rattle.machine_model.specs.History.{after_step, reply_of}
use Rattle.call_plans.specs.Prepared.{asked_by}
use Rattle.history_replay.proofs.making.ask.Goals as goal

pub returns-clause-reply : goal.returns-clause-reply
returns-clause-reply c =
    c.commit.ensures.reply (asked_by c.args.conn c.args.moment c.args.call.now) c.in_ok-prepared.ensures.ready
    ∙ ap (λ (s : State). reply_of s c.args.conn c.args.moment c.args.call.now) c.prepare.ensures.state

pub returns-clause-made : goal.returns-clause-made
returns-clause-made c =
    let done = c.commit.ensures.step (asked_by c.args.conn c.args.moment c.args.call.now) c.in_ok-prepared.ensures.ready in
    done.state ∙ ap (λ (s : State). after_step s (Step.Call c.args.conn c.args.moment c.args.call.now)) c.prepare.ensures.state
