use Rattle.std.proofs.Common.{ap, sym, None}
use Rattle.machine_model.specs.Calls.Volumes.{by_standing, volume_create_outcome}
use Rattle.machine_model.specs.Step.{at_moment}
use Rattle.machine_model.specs.Views.{volume_body}
use Rattle.call_plans.proofs.AnswerLemmas.{answered_or, made_or}
use Rattle.call_plans.proofs.VolumeLemmas.{made_until}
use Rattle.changing_calls.proofs.volumes.create.prepare.Goals as goal

pub show-requires : goal.show-requires
show-requires c = made_until c.args.tables.now.state c.args.name.now c.in-Some.volume.now c.requires.kept (sym c.in-Some.ensures)

pub returns-in-Some : goal.returns-in-Some
returns-in-Some c =
    answered_or _ c.args.moment c.args.tables.now.state 201 (volume_body c.in-Some.volume.now) (volume_create_outcome c.args.name.now c.args.labels.now)
    (ap (λ o. by_standing o c.args.name.now c.args.labels.now (at_moment c.args.moment c.args.tables.now.state)) (sym c.in-Some.ensures)) c.show.ensures

pub returns-in-None : goal.returns-in-None
returns-in-None c =
    made_or _ c.args.moment c.args.tables.now.state (by_standing None c.args.name.now c.args.labels.now) (volume_create_outcome c.args.name.now c.args.labels.now)
    (ap (λ o. by_standing o c.args.name.now c.args.labels.now (at_moment c.args.moment c.args.tables.now.state)) (sym c.in-None.ensures)) c.prepare_new.ensures
