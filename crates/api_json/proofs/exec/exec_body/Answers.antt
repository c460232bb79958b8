use Rattle.api_json.specs.Exec.{exec_data}
use Rattle.api_json.specs.Views.{exec_shown}
use Rattle.api_json.proofs.WrittenLemmas.{compact}
use Rattle.api_json.proofs.exec.exec_body.Goals as goal

pub returns : goal.returns
returns c = compact (exec_data (exec_shown c.args.exec.now)) c.new-out.ensures.tokens c.in_ok-write_exec.ensures c.written_text.ensures
