use Rattle.std.proofs.Common.{eqb}
use Rattle.machine_tables.specs.declared.held.HeldTicket.{HeldTicket}
use Rattle.machine_tables.proofs.RisingLemmas.{rises_removed}
use Rattle.machine_tables.proofs.tickets.Tickets.remove.Goals as goal

pub invariant_of-self : goal.invariant_of-self
invariant_of-self c = λ rises. rw c.remove.ensures.items (rises_removed (λ (t : HeldTicket). eqb t.number c.args.number) c.self.inside.items.items (c.self.invariant rises))
