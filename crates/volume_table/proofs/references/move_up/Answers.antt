use Rattle.volume_table.specs.VolumesInside.{moved_up}
use Rattle.volume_table.proofs.ReferenceLemmas.{moved_more}
use Rattle.volume_table.proofs.references.move_up.Goals as goal

pub references-preserved : goal.references-preserved
references-preserved c =
    moved_more (moved_up c.args.from) c.deref_mut-r-items.result.now c.references.r-items c.references.r-index (record { place = 0; container = 0 }) c.up.result
    c.references-test.true c.references.auto.r-items c.references.invariant c.up.ensures
