use Rattle.std.proofs.Common.{ap, sym}
use Rattle.machine_model.specs.Calls.Volumes.{volume_inspect_outcome, with_volume}
use Rattle.machine_model.specs.Outcome.{answers, message_text}
use Rattle.machine_model.specs.Refusals.{no_such_volume}
use Rattle.machine_model.specs.Step.{at_moment}
use Rattle.machine_model.specs.Views.{volume_body}
use Rattle.call_plans.proofs.AnswerLemmas.{answered_or}
use Rattle.call_plans.proofs.VolumeLemmas.{made_until}
use Rattle.reading_calls.proofs.volumes.inspect.prepare.Goals as goal

pub show-requires : goal.show-requires
show-requires c = made_until c.args.tables.now.state c.args.name.now c.in-Some.volume.now c.requires (sym c.in-Some.ensures)

pub returns-in-Some : goal.returns-in-Some
returns-in-Some c =
    answered_or _ c.args.moment c.args.tables.now.state 200 (volume_body c.in-Some.volume.now) (volume_inspect_outcome c.args.name.now)
    (ap (λ o. with_volume o c.args.name.now (λ v. answers 200 (volume_body v)) (at_moment c.args.moment c.args.tables.now.state)) (sym c.in-Some.ensures)) c.show.ensures

pub returns-in-None : goal.returns-in-None
returns-in-None c =
    answered_or _ c.args.moment c.args.tables.now.state 404 (message_text (no_such_volume c.args.name.now)) (volume_inspect_outcome c.args.name.now)
    (ap (λ o. with_volume o c.args.name.now (λ v. answers 200 (volume_body v)) (at_moment c.args.moment c.args.tables.now.state)) (sym c.in-None.ensures)) c.refuse_missing.ensures
