use Rattle.api_json.specs.Views.{volume_shown}
use Rattle.api_json.specs.Volume.{volume_data}
use Rattle.api_json.proofs.WrittenLemmas.{compact}
use Rattle.api_json.proofs.volume.volume_body.Goals as goal

pub returns : goal.returns
returns c = compact (volume_data (volume_shown c.args.volume.now)) c.new-out.ensures.tokens c.in_ok-write_volume.ensures c.written_text.ensures
