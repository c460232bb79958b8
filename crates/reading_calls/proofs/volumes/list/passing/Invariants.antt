use Rattle.std.proofs.Common.{◌≡◌, filter, map, take}
use Rattle.engine_text.specs.declared.volume.Volume.{Volume}
use Rattle.machine_model.specs.Filters.{passes, volume_fits}
use Rattle.machine_model.specs.Views.{listed_volume}
use Rattle.reading_calls.proofs.volumes.list.passing.Given as goal

abbrev pub invariant-loop-v : goal.invariant-loop-v
invariant-loop-v l = l.items.items ≡ map listed_volume (filter (λ (v : Volume). passes (volume_fits v) l.rows) (take l.v-index l.volumes))
