use Rattle.std.specs.Option.{option_map_or}
use Rattle.std.proofs.Common.{ap, sym, Some}
use Rattle.engine_text.specs.declared.container.Container.{Container}
use Rattle.engine_text.specs.declared.exec.Exec.{Exec}
use Rattle.machine_model.specs.Calls.ExecStart.{with_exec}
use Rattle.machine_model.specs.Outcome.{Outcome, answers, message_text, refused}
use Rattle.machine_model.specs.Refusals.{no_such_exec}
use Rattle.machine_model.specs.State.{State}
use Rattle.machine_model.specs.Step.{at_moment}
use Rattle.machine_model.specs.Views.{exec_body}
use Rattle.container_table.specs.Logs.{container_in}
use Rattle.call_plans.proofs.AnswerLemmas.{answered_or}
use Rattle.reading_calls.proofs.execs.inspect.prepare_standing.Goals as goal

pub returns-in-Some : goal.returns-in-Some
returns-in-Some c =
    let id = c.args.id.now in
    let s : State = c.args.tables.now.state in
    let x : Exec = c.args.exec.now in
    answered_or _ c.args.moment s 200 (exec_body s (container_in c.in-Some.h.now) x) (λ z. with_exec (Some x) id (λ (y : Exec) (d : Container) (w : State). answers 200 (exec_body w d y) w) z)
    (ap (λ o. option_map_or {U = State → Outcome} (λ (d : Container) (w : State). answers 200 (exec_body w d x) w) o (refused 404 (no_such_exec id)) (at_moment c.args.moment s)) (sym c.in-Some.ensures)) c.show.ensures

pub returns-in-None : goal.returns-in-None
returns-in-None c =
    let id = c.args.id.now in
    let s : State = c.args.tables.now.state in
    let x : Exec = c.args.exec.now in
    answered_or _ c.args.moment s 404 (message_text (no_such_exec id)) (λ z. with_exec (Some x) id (λ (y : Exec) (d : Container) (w : State). answers 200 (exec_body w d y) w) z)
    (ap (λ o. option_map_or {U = State → Outcome} (λ (d : Container) (w : State). answers 200 (exec_body w d x) w) o (refused 404 (no_such_exec id)) (at_moment c.args.moment s)) (sym c.in-None.ensures)) c.refuse_missing.ensures
