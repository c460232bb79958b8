use Rattle.std.proofs.Common.{◌∙◌}
use Rattle.engine_text.specs.declared.volume.Volume.{Volume}
use Rattle.machine_model.specs.Filters.{passes, volume_fits}
use Rattle.reading_calls.proofs.VolumesToldLemmas.{all_until}
use Rattle.reading_calls.proofs.volumes.list.prepare.Goals as goal

pub volumes_body-requires : goal.volumes_body-requires
volumes_body-requires c =
    all_until c.args.tables.now.state (λ (v : Volume). passes (volume_fits v) c.args.filter.now) c.as_slice.result.now c.requires
    (c.as_slice.ensures.value ∙ c.in_ok-items.ensures)
