use Rattle.engine_ports.proofs.PortLemmas.{written_on}
use Rattle.lab_shown.proofs.writing.write_two.Goals as goal

pub returns : goal.returns
returns g c = written_on tt c.take-2.result _ _ _ _ _ c.in_ok-take.ensures c.take-2.ensures
