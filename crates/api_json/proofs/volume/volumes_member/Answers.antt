use Rattle.api_json.specs.Volume.{volume_data}
use Rattle.api_json.proofs.WrittenLemmas.{lacks_item_less, lacks_items_none}
use Rattle.api_json.proofs.volume.volumes_member.Goals as goal

pub volumes-preserved : goal.volumes-preserved
volumes-preserved c =
    lacks_item_less volume_data c.args.volumes.now c.volumes.volume-index c.volume-item.result c.volumes-test.true c.volume-item.is c.in_ok-write_listed.ensures c.volumes.invariant

pub returns : goal.returns
returns c = lacks_items_none volume_data c.args.volumes.now c.volumes.volume-index c.volumes-test.false c.end_array.ensures c.volumes.invariant
