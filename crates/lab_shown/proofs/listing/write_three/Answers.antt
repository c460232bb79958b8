use Rattle.engine_ports.proofs.PortLemmas.{written_on}
use Rattle.lab_shown.proofs.listing.write_three.Goals as goal

pub returns : goal.returns
returns g c = written_on tt c.write_two.result _ _ _ _ _ c.in_ok-take.ensures c.write_two.ensures
