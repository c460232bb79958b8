use Rattle.std.proofs.Common.{ap, sym, Some}
use Rattle.engine_text.specs.declared.container.Container.{Container}
use Rattle.engine_text.specs.declared.exec.Exec.{Exec}
use Rattle.machine_model.specs.Calls.ExecCreate.{if_running}
use Rattle.machine_model.specs.Calls.ExecStart.{exec_start_outcome, run, unless_started, with_exec}
use Rattle.machine_model.specs.Outcome.{Outcome, message_text}
use Rattle.machine_model.specs.Refusals.{no_such_exec}
use Rattle.machine_model.specs.State.{State}
use Rattle.machine_model.specs.Step.{at_moment}
use Rattle.call_plans.proofs.AnswerLemmas.{answered_or, made_or}
use Rattle.changing_calls.proofs.ExecStartLemmas.{own_found}
use Rattle.changing_calls.proofs.execs.start.prepare.Goals as goal

pub prepare_standing-requires : goal.prepare_standing-requires
prepare_standing-requires c = own_found c.args.tables.now.state c.args.id.now c.in-Some.exec.now c.requires (sym c.in-Some.ensures)

pub returns-in-Some : goal.returns-in-Some
returns-in-Some c =
    let id = c.args.id.now in
    let f : Exec → Container → State → Outcome = λ x d. unless_started x.started id (if_running d.life.status d (run c.args.detach x)) in
    made_or _ c.args.moment c.args.tables.now.state (with_exec (Some c.in-Some.exec.now) id f) (exec_start_outcome id c.args.detach)
    (ap (λ o. with_exec o id f (at_moment c.args.moment c.args.tables.now.state)) (sym c.in-Some.ensures)) c.prepare_standing.ensures

pub returns-in-None : goal.returns-in-None
returns-in-None c =
    let id = c.args.id.now in
    let f : Exec → Container → State → Outcome = λ x d. unless_started x.started id (if_running d.life.status d (run c.args.detach x)) in
    answered_or _ c.args.moment c.args.tables.now.state 404 (message_text (no_such_exec id)) (exec_start_outcome id c.args.detach)
    (ap (λ o. with_exec o id f (at_moment c.args.moment c.args.tables.now.state)) (sym c.in-None.ensures)) c.refuse_missing.ensures
