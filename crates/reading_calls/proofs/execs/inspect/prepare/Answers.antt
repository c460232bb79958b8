use Rattle.std.proofs.Common.{ap, sym, Some}
use Rattle.engine_text.specs.declared.container.Container.{Container}
use Rattle.engine_text.specs.declared.exec.Exec.{Exec}
use Rattle.machine_model.specs.Calls.ExecStart.{exec_inspect_outcome, with_exec}
use Rattle.machine_model.specs.Outcome.{answers, message_text}
use Rattle.machine_model.specs.Refusals.{no_such_exec}
use Rattle.machine_model.specs.State.{State}
use Rattle.machine_model.specs.Step.{at_moment}
use Rattle.machine_model.specs.Views.{exec_body}
use Rattle.call_plans.proofs.AnswerLemmas.{answered_or, made_or}
use Rattle.reading_calls.proofs.execs.inspect.prepare.Goals as goal

pub returns-in-Some : goal.returns-in-Some
returns-in-Some c =
    let id = c.args.id.now in
    made_or _ c.args.moment c.args.tables.now.state (λ s. with_exec (Some c.in-Some.exec.now) id (λ (x : Exec) (d : Container) (z : State). answers 200 (exec_body z d x) z) s) (exec_inspect_outcome id)
    (ap (λ o. with_exec o id (λ (x : Exec) (d : Container) (z : State). answers 200 (exec_body z d x) z) (at_moment c.args.moment c.args.tables.now.state)) (sym c.in-Some.ensures)) c.prepare_standing.ensures

pub returns-in-None : goal.returns-in-None
returns-in-None c =
    let id = c.args.id.now in
    answered_or _ c.args.moment c.args.tables.now.state 404 (message_text (no_such_exec id)) (exec_inspect_outcome id)
    (ap (λ o. with_exec o id (λ (x : Exec) (d : Container) (z : State). answers 200 (exec_body z d x) z) (at_moment c.args.moment c.args.tables.now.state)) (sym c.in-None.ensures)) c.refuse_missing.ensures
