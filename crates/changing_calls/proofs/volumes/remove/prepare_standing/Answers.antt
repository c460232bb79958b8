use Rattle.std.proofs.Common.{ap, sym, ◌∙◌}
use Rattle.machine_model.specs.Calls.Volumes.{is_in_use, remove_volume, unless_in_use}
use Rattle.machine_model.specs.Outcome.{done, message_text}
use Rattle.machine_model.specs.Refusals.{volume_in_use}
use Rattle.machine_model.specs.Step.{at_moment}
use Rattle.call_plans.proofs.AnswerLemmas.{answered_or, made_or}
use Rattle.changing_calls.proofs.volumes.remove.prepare_standing.Goals as goal

pub returns-then-is_used : goal.returns-then-is_used
returns-then-is_used c =
    let name = c.args.name.now in
    answered_or _ c.args.moment c.args.tables.now.state 409 (message_text (volume_in_use name)) (λ s. unless_in_use (is_in_use name s) name s)
    (ap (λ b. unless_in_use b name (at_moment c.args.moment c.args.tables.now.state)) (sym c.is_used.ensures ∙ c.if-is_used.true)) c.refuse_used.ensures

pub returns : goal.returns
returns c =
    let name = c.args.name.now in
    made_or _ c.args.moment c.args.tables.now.state (done (remove_volume name)) (λ s. unless_in_use (is_in_use name s) name s)
    (ap (λ b. unless_in_use b name (at_moment c.args.moment c.args.tables.now.state)) (sym c.is_used.ensures ∙ c.if-is_used.false)) c.prepare_unused.ensures
