use Rattle.std.proofs.Common.{ap}
use Rattle.std.specs.Result.{result_ok}
use Rattle.engine_text.proofs.PlaceLemmas.{seen, found, not_found}
use Rattle.volume_table.specs.Volumes.{VolumeTable, is_named}
use Rattle.volume_table.proofs.volumes.Volumes.find.Goals as goal

pub returns-in-Ok : goal.returns-in-Ok
returns-in-Ok c =
    let p = is_named c.args.name.now in
    let at = seen p c.as_slice.result.now c.self.inside.volumes.items _ _ c.place_of.ensures.found c.as_slice.ensures.value (ap result_ok c.in-Ok.is) in
    found p c.self.inside.volumes.items _ c.in-Ok.i c.index.result.now at c.index.ensures (ap (λ (t : VolumeTable). t.volumes) c.self.view_is)

pub returns-in-Err : goal.returns-in-Err
returns-in-Err c =
    let p = is_named c.args.name.now in
    let at = seen p c.as_slice.result.now c.self.inside.volumes.items _ _ c.place_of.ensures.found c.as_slice.ensures.value (ap result_ok c.in-Err.is) in
    not_found p c.self.inside.volumes.items _ at (ap (λ (t : VolumeTable). t.volumes) c.self.view_is)
