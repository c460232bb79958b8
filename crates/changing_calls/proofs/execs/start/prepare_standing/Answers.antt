use Rattle.std.specs.Option.{option_map_or}
use Rattle.std.proofs.Common.{ap, sym, Some}
use Rattle.engine_text.specs.declared.container.Container.{Container}
use Rattle.engine_text.specs.declared.exec.Exec.{Exec}
use Rattle.machine_model.specs.Calls.ExecCreate.{if_running}
use Rattle.machine_model.specs.Calls.ExecStart.{run, unless_started, with_exec}
use Rattle.machine_model.specs.Outcome.{Outcome, message_text, refused}
use Rattle.machine_model.specs.Refusals.{no_such_exec}
use Rattle.machine_model.specs.State.{State}
use Rattle.machine_model.specs.Step.{at_moment}
use Rattle.container_table.specs.Logs.{container_in}
use Rattle.call_plans.proofs.AnswerLemmas.{answered_or, made_or}
use Rattle.changing_calls.proofs.execs.start.prepare_standing.Goals as goal

pub returns-in-Some : goal.returns-in-Some
returns-in-Some c =
    let id = c.args.id.now in
    let x : Exec = c.args.exec.now in
    let f : Container → State → Outcome = λ d. unless_started x.started id (if_running d.life.status d (run c.args.detach x)) in
    made_or _ c.args.moment c.args.tables.now.state (f (container_in c.in-Some.h.now)) (λ z. with_exec (Some x) id (λ (y : Exec) (d : Container). unless_started y.started id (if_running d.life.status d (run c.args.detach y))) z)
    (ap (λ o. option_map_or {U = State → Outcome} f o (refused 404 (no_such_exec id)) (at_moment c.args.moment c.args.tables.now.state)) (sym c.in-Some.ensures)) c.prepare_found.ensures

pub returns-in-None : goal.returns-in-None
returns-in-None c =
    let id = c.args.id.now in
    let x : Exec = c.args.exec.now in
    let f : Container → State → Outcome = λ d. unless_started x.started id (if_running d.life.status d (run c.args.detach x)) in
    answered_or _ c.args.moment c.args.tables.now.state 404 (message_text (no_such_exec id)) (λ z. with_exec (Some x) id (λ (y : Exec) (d : Container). unless_started y.started id (if_running d.life.status d (run c.args.detach y))) z)
    (ap (λ o. option_map_or {U = State → Outcome} f o (refused 404 (no_such_exec id)) (at_moment c.args.moment c.args.tables.now.state)) (sym c.in-None.ensures)) c.refuse_missing.ensures
