use Rattle.std.proofs.Common.{ap}
use Rattle.engine_text.specs.declared.container.Container.{Container}
use Rattle.machine_model.specs.Calls.ExecCreate.{if_running}
use Rattle.machine_model.specs.Calls.ExecStart.{run, unless_started}
use Rattle.machine_model.specs.Outcome.{Outcome}
use Rattle.machine_model.specs.State.{State}
use Rattle.machine_model.specs.Step.{at_moment}
use Rattle.container_table.specs.Logs.{container_in}
use Rattle.call_plans.proofs.AnswerLemmas.{made_or}
use Rattle.changing_calls.proofs.execs.start.prepare_found.Goals as goal

pub returns-else-exec : goal.returns-else-exec
returns-else-exec c =
    let id = c.args.id.now in
    let d : Container = container_in c.args.h.now in
    let f : State → Outcome = if_running d.life.status d (run c.args.detach c.args.exec.now) in
    made_or _ c.args.moment c.args.tables.now.state f (unless_started c.args.exec.now.started id f)
    (ap (λ b. unless_started b id f (at_moment c.args.moment c.args.tables.now.state)) c.if-exec.false) c.prepare_unstarted.ensures
