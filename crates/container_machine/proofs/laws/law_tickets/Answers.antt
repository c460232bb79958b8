use Rattle.machine_model.proofs.Kept.OrderLemmas.{tickets_law}
use Rattle.container_machine.proofs.laws.law_tickets.Goals as goal

pub returns : goal.returns
returns c = tickets_law
