use Rattle.std.proofs.Common.{ap, sym}
use Rattle.machine_model.specs.Calls.Volumes.{is_in_use, unless_in_use, volume_remove_outcome, with_volume}
use Rattle.machine_model.specs.Outcome.{message_text}
use Rattle.machine_model.specs.Refusals.{no_such_volume}
use Rattle.machine_model.specs.State.{State}
use Rattle.machine_model.specs.Step.{at_moment}
use Rattle.engine_text.specs.declared.volume.Volume.{Volume}
use Rattle.call_plans.proofs.AnswerLemmas.{answered_or, made_or}
use Rattle.changing_calls.proofs.volumes.remove.prepare.Goals as goal

pub returns-in-Some : goal.returns-in-Some
returns-in-Some c =
    let name = c.args.name.now in
    made_or _ c.args.moment c.args.tables.now.state (λ s. unless_in_use (is_in_use name s) name s) (volume_remove_outcome name)
    (ap (λ o. with_volume o name (λ (v : Volume) (s : State). unless_in_use (is_in_use name s) name s) (at_moment c.args.moment c.args.tables.now.state)) (sym c.in-Some.ensures)) c.prepare_standing.ensures

pub returns-in-None : goal.returns-in-None
returns-in-None c =
    let name = c.args.name.now in
    answered_or _ c.args.moment c.args.tables.now.state 404 (message_text (no_such_volume name)) (volume_remove_outcome name)
    (ap (λ o. with_volume o name (λ (v : Volume) (s : State). unless_in_use (is_in_use name s) name s) (at_moment c.args.moment c.args.tables.now.state)) (sym c.in-None.ensures)) c.refuse_missing.ensures
