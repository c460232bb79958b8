use Rattle.api_json.specs.Container.{container_data}
use Rattle.api_json.specs.Views.{container_shown}
use Rattle.api_json.proofs.WrittenLemmas.{compact}
use Rattle.api_json.proofs.container.container_body.Goals as goal

pub returns : goal.returns
returns c = compact (container_data (container_shown c.args.container.now)) c.new-out.ensures.tokens c.in_ok-write_container.ensures c.written_text.ensures
