use Rattle.api_json.specs.Values.{list_of}
use Rattle.api_json.specs.Volume.{volume_data, volumes_object}
use Rattle.api_json.proofs.WrittenLemmas.{compact}
use Rattle.api_json.proofs.volume.volumes_body.Goals as goal

pub returns : goal.returns
returns c =
    compact (volumes_object (list_of volume_data c.args.volumes.now)) c.new-out.ensures.tokens c.in_ok-write_volumes.ensures c.written_text.ensures
