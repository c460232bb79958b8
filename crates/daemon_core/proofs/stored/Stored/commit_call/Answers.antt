use Rattle.std.proofs.Common.{◌≡◌, ◌≢◌, ◌<◌, refl, subst, sym, ap, ◌∙◌, length}
use Rattle.engine_text.specs.declared.reply.Reply.TheVariants as replies
use Rattle.engine_text.specs.declared.step.Step.{Step}
use Rattle.machine_model.specs.State.{State}
use Rattle.machine_model.specs.History.{after_step, reply_of}
use Rattle.machine_model.specs.Step.{at_moment, step_effect}
use Rattle.call_plans.specs.Prepared.{asked_by}
use Rattle.daemon_core.specs.Telling.{AreTimed}
use Rattle.daemon_core.proofs.TellLemmas.{played, room_for, some_replied, some_told, timed_step}
use Rattle.daemon_core.proofs.WrittenLemmas.{on_err}
use Rattle.daemon_core.proofs.stored.Stored.commit_call.Goals as goal

pub with_lines-requires : goal.with_lines-requires
with_lines-requires c =
    let s : State = c.args.self.now.machine.memory.state in
    let x : Step = Step.Call c.args.conn c.args.moment c.args.call.now in
    let are : c.events.result.now ≡ (step_effect x s).events =
    c.events.ensures ∙ c.in_ok-prepared.ensures.ready.makes.events ∙ ap (λ (y : State). (step_effect x y).events) c.prepare.ensures.state in
    subst AreTimed (sym are) (timed_step s x c.kept.ensures.state c.requires.lawful)

pub keep_all-requires : goal.keep_all-requires
keep_all-requires c =
    let s : State = c.args.self.now.machine.memory.state in
    let x : Step = Step.Call c.args.conn c.args.moment c.args.call.now in
    let are : c.in_ok-lines.lines.items ≡ (step_effect x s).events =
    c.in_ok-lines.ensures.ok ∙ c.events.ensures ∙ c.in_ok-prepared.ensures.ready.makes.events
    ∙ ap (λ (y : State). (step_effect x y).events) c.prepare.ensures.state in
    room_for c.args.self.now x c.in_ok-lines.lines.items c.requires.told c.kept.ensures.state c.requires.lawful are

pub returns : goal.returns
returns c =
    let k = c.args.conn in
    let t = c.args.moment in
    let call = c.args.call.now in
    let s : State = c.args.self.now.machine.memory.state in
    let x : Step = Step.Call k t call in
    let n = c.commit-reply.new.self in
    let are : c.in_ok-lines.lines.items ≡ (step_effect x s).events =
    c.in_ok-lines.ensures.ok ∙ c.events.ensures ∙ c.in_ok-prepared.ensures.ready.makes.events
    ∙ ap (λ (y : State). (step_effect x y).events) c.prepare.ensures.state in
    let done = c.commit-reply.ensures.step (asked_by k t call) c.in_ok-prepared.ensures.ready in
    let is : n.memory.state ≡ after_step s x = done.state ∙ ap (λ (y : State). after_step y x) c.prepare.ensures.state in
    record {
      journal = refl;
      made = played c.args.self.now (record { machine = n; journal = c.args.self.now.journal; ring = c.keep_all.new.ring }) x
          c.in_ok-lines.lines.items is are c.keep_all.ensures;
      kept = c.in_ok-kept.ensures.ok ∙ c.reply.ensures ∙ c.in_ok-prepared.ensures.ready.makes.reply ∙ ap (λ (y : State). reply_of y k t call) c.prepare.ensures.state;
      reply = c.commit-reply.ensures.reply (asked_by k t call) c.in_ok-prepared.ensures.ready ∙ ap (λ (y : State). reply_of y k t call) c.prepare.ensures.state;
      state = tt;
      ring = tt;
      drop = tt;
    }

pub returns-in_err-lines-clause-drop : goal.returns-in_err-lines-clause-drop
returns-in_err-lines-clause-drop c =
    let some : 0 < length c.events.result.now = c.in_err-lines.ensures.err in
    let told = subst (λ es. 0 < length es) (c.events.ensures ∙ c.in_ok-prepared.ensures.ready.makes.events) some in
    on_err c.from_residual-in_err-lines.result (some_told c.args.call.now c.args.conn (at_moment c.args.moment c.prepare.new.self.memory.state) told)

-- a drop's reply takes no memory
pub returns-in_err-kept-clause-drop : goal.returns-in_err-kept-clause-drop
returns-in_err-kept-clause-drop c =
    let other = c.in_err-kept.ensures.err in
    let is = c.reply.ensures ∙ c.in_ok-prepared.ensures.ready.makes.reply in
    on_err _
    (some_replied c.args.call.now c.args.conn (at_moment c.args.moment c.prepare.new.self.memory.state) (subst (λ r. r ≢ replies.Dropped) is other))
