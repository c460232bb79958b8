use Rattle.std.proofs.Common.{refl, ap, ◌∙◌}
use Rattle.engine_text.specs.declared.event.Action.{Action}
use Rattle.machine_model.specs.EventTexts.{volume_event}
use Rattle.changing_calls.proofs.VolumesChangedLemmas.{makes_volume}
use Rattle.changing_calls.proofs.volumes.create.prepare_new.Goals as goal

pub returns : goal.returns
returns c =
    makes_volume _ c.args.moment c.args.tables.now.state c.args.name.now c.in_ok-own.own c.in_ok-body.body c.args.labels.now c.in_ok-pairs.pairs c.new-events.result.items c.in_ok-event.event
    c.in_ok-own.ensures c.in_ok-pairs.ensures c.requires.free refl refl refl c.in_ok-body.ensures c.new-events.ensures.items c.in_ok-add.ensures
    (c.in_ok-event.ensures ∙ ap (λ n. volume_event Action.Create n c.args.moment) c.in_ok-own.ensures)
