use Rattle.std.proofs.Common.{refl, ap, ◌∙◌}
use Rattle.engine_text.specs.declared.reply.Reply.TheVariants.{Answer}
use Rattle.engine_text.specs.declared.event.Action.{Action}
use Rattle.machine_model.specs.EventTexts.{volume_event}
use Rattle.changing_calls.proofs.VolumesChangedLemmas.{makes_removal}
use Rattle.changing_calls.proofs.volumes.remove.prepare_unused.Goals as goal

pub returns : goal.returns
returns c =
    makes_removal _ c.args.moment c.args.tables.now.state c.args.name.now c.in_ok-own.own c.new-events.result.items c.in_ok-event.event
    c.in_ok-own.ensures c.requires.stands c.requires.unused refl refl (ap (λ b. Answer 204 b) c.new-body.ensures) c.new-events.ensures.items c.in_ok-add.ensures
    (c.in_ok-event.ensures ∙ ap (λ n. volume_event Action.Destroy n c.args.moment) c.in_ok-own.ensures)
