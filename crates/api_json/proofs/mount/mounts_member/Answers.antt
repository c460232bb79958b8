use Rattle.api_json.specs.Mount.{mount_data}
use Rattle.api_json.proofs.WrittenLemmas.{lacks_item_less, lacks_items_none}
use Rattle.api_json.proofs.mount.mounts_member.Goals as goal

pub mounts-preserved : goal.mounts-preserved
mounts-preserved c =
    lacks_item_less mount_data c.args.mounts.now c.mounts.mount-index c.mount-item.result c.mounts-test.true c.mount-item.is c.in_ok-write_mount.ensures c.mounts.invariant

pub returns : goal.returns
returns c = lacks_items_none mount_data c.args.mounts.now c.mounts.mount-index c.mounts-test.false c.end_array.ensures c.mounts.invariant
