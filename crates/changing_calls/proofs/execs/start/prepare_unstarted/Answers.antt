use Rattle.std.specs.Option.{option_map_or}
use Rattle.std.proofs.Common.{ap, sym, ◌∙◌}
use Rattle.engine_text.specs.declared.container.Container.{Container}
use Rattle.machine_model.specs.Calls.ExecCreate.{if_running}
use Rattle.machine_model.specs.Calls.ExecStart.{run}
use Rattle.machine_model.specs.Outcome.{Outcome, conflicts, message_text}
use Rattle.machine_model.specs.State.{State}
use Rattle.machine_model.specs.Step.{at_moment}
use Rattle.container_table.specs.Logs.{container_in}
use Rattle.call_plans.proofs.AnswerLemmas.{answered_or, made_or}
use Rattle.changing_calls.proofs.ExecStartLemmas.{by_refusal}
use Rattle.changing_calls.proofs.execs.start.prepare_unstarted.Goals as goal

pub returns-in-None : goal.returns-in-None
returns-in-None c =
    let d : Container = container_in c.args.h.now in
    let f : State → Outcome = run c.args.detach c.args.exec.now in
    let z : State = at_moment c.args.moment c.args.tables.now.state in
    made_or _ c.args.moment c.args.tables.now.state f (if_running d.life.status d f)
    (ap (λ (g : State → Outcome). g z) (by_refusal d.life.status d f) ∙ ap (λ o. (option_map_or conflicts o f) z) (sym c.in_ok-refusal_of.ensures ∙ c.in-None.is)) c.prepare_run.ensures

pub returns-in-Some : goal.returns-in-Some
returns-in-Some c =
    let d : Container = container_in c.args.h.now in
    let f : State → Outcome = run c.args.detach c.args.exec.now in
    let z : State = at_moment c.args.moment c.args.tables.now.state in
    answered_or _ c.args.moment c.args.tables.now.state 409 (message_text c.in-Some.text) (if_running d.life.status d f)
    (ap (λ (g : State → Outcome). g z) (by_refusal d.life.status d f) ∙ ap (λ o. (option_map_or conflicts o f) z) (sym c.in_ok-refusal_of.ensures ∙ c.in-Some.is)) c.refuse.ensures
