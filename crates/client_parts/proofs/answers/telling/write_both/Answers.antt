use Rattle.engine_ports.proofs.PortLemmas.{written_on}
use Rattle.client_parts.proofs.answers.telling.write_both.Goals as goal

pub returns : goal.returns
returns g c = written_on tt c.write-2.result _ _ _ _ _ c.in_ok-write.ensures c.write-2.ensures
