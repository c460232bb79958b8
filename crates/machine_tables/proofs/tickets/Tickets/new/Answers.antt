use Rattle.machine_tables.proofs.RisingLemmas.{rises_none}
use Rattle.machine_tables.proofs.tickets.Tickets.new.Goals as goal

pub invariant_of-result : goal.invariant_of-result
invariant_of-result c = λ _. rises_none _ c.new.ensures.items
