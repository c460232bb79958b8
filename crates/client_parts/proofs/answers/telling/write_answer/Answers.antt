use Rattle.engine_ports.proofs.PortLemmas.{written_on}
use Rattle.client_parts.proofs.answers.telling.write_answer.Goals as goal

pub returns : goal.returns
returns g c = written_on tt c.write_status.result _ _ _ _ _ c.in_ok-write_both.ensures c.write_status.ensures
